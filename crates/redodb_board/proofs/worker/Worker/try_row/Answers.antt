use Rattle.std.proofs.Common.{◌≡◌, ℕ, ◌+◌, ◌<◌, ◌^◌, ◌∷◌, [], ◌++◌, length, List, arith, refl, sym, ap, ◌∙◌, subst, None, Some, Bool}
use Rattle.std.specs.Vec.{vec_len, vec_capacity}
use Rattle.std.proofs.lemmas.List.{length_push}
use Rattle.redodb_model.specs.Command.{Command}
use Rattle.redodb_model.specs.Placed.{Row}
use Rattle.redodb_model.specs.Journals.{Numbered}
use Rattle.redodb_model.specs.Renaming.{IsBelow}
use Rattle.redodb_model.specs.Step.{Replies, records_after}
use Rattle.redodb_records.specs.Rows.{by_number}
use Rattle.redodb_graph.specs.Steps.{Means}
use Rattle.redodb_replica.specs.Replicas.{ReplicaOf, IsStepBelow, count_of, records_of}
use Rattle.redodb_replica.specs.Replies.{naming_in}
use Rattle.redodb_commands.specs.Meaning.{command_of, reply_of}
use Rattle.redodb_journal.specs.Plans.{PlanOf}
use Rattle.redodb_journal.specs.declared.entry.Entry.{Entry}
use Rattle.redodb_board.specs.Core.{word}
use Rattle.redodb_board.specs.Views.{view}
use Rattle.redodb_board.specs.Plays.{own}
use Rattle.redodb_board.specs.Support.Plays.{SaysRow, Goes, row_line}
use Rattle.redodb_board.specs.Shown.{journal_of, seen_by}
use Rattle.redodb_board.specs.Kept.{Works, WorksAt, Lags, view_of}
use Rattle.redodb_board.specs.Outcomes.{Made}
use Rattle.redodb_board.specs.Support.Own.{holds_its_target}
use Rattle.redodb_board.specs.Support.Steps.{Enters}
use Rattle.redodb_board.specs.declared.worker.Worker.{Worker}
use Rattle.redodb_board.proofs.Rooms.{next_word}
use Rattle.redodb_board.proofs.Steps.{tries_as, won_goes}
use Rattle.redodb_board.proofs.Stores.{says, lags_few, lags_won}
use Rattle.redodb_board.proofs.Briefs.{ready_said}
use Rattle.redodb_board.proofs.NextSteps.{few_words, plan_is, lines_names, own_below, own_has, row_next, room_next, closing_lets_go}
use Rattle.redodb_board.proofs.Works.{is_entry, entered, both_on, works_lost, waits_lost}
use Rattle.redodb_board.proofs.worker.Worker.try_row.Goals as goal
use Rattle.redodb_board.proofs.worker.Worker.try_row.Goals.{After-enter}

lags_now : (p : PlanOf) (w : Worker) → Works p w → w.pending ≡ None
    → Lags p w.replica None (seen_by w)
lags_now p w k e = subst (λ o. Lags p w.replica o (seen_by w)) e k.lags

pub compare_exchange-found-requires : goal.compare_exchange-found-requires
compare_exchange-found-requires g c =
    let p = c.args.plan.now in
    let w = c.args.self.now in
    let b = c.requires.belongs.0 in
    let k = c.requires.belongs.1 in
    let x = command_of c.args.command.now in
    let n : Numbered ℕ = record { number = c.args.next.now.number; command = x } in
    let is-next = c.requires.command.next in
    let near = row_next k.works is-next c.requires.way in
    let holds : c.holds_its_target-holds.result ≡ own (journal_of p w) x =
    c.holds_its_target-holds.ensures ∙ own_has k.works is-next in
    let some = ready_said w c.args.step.now x c.args.list c.requires.step c.requires.ready in (
      k.table,
      (let x = b.words in omega arith),
      tries_as p c.args.board.now.table.shared.key c.args.board.now.table.shared.table_id.slots
          w.seat.id w.session (journal_of p w) (view_of w) w.seat.me.1 b.key k.works.view
          k.works.session n is-next w.tries
          c.word_of-word.result
          (c.word_of-word.ensures p c.requires.command.marked
          ∙ ap (word p w.session c.args.next.now.number x) holds)
          k.works.tries near c.requires.way
          some.0
          (says p w.replica (seen_by w) w.session (holds_its_target w.own x)
          (own (journal_of p w) x) x some.0
          (lags_now p w k.works c.requires.none) (own_has k.works is-next) some.1.replies
          some.1.below),
    )

pub overflow_add-self : goal.overflow_add-self
overflow_add-self g c =
    let near =
    row_next c.requires.belongs.1.works c.requires.command.next c.requires.way in
    omega (arith, few_words c.requires.belongs.0, c.requires.belongs.0.rows)

pub returns-then-found-ne0-clause-row : goal.returns-then-found-ne0-clause-row
returns-then-found-ne0-clause-row g c =
    row_next c.requires.belongs.1.works c.requires.command.next c.requires.way

pub returns-clause-row : goal.returns-clause-row
returns-clause-row g c =
    row_next c.requires.belongs.1.works c.requires.command.next c.requires.way

pub change-requires-clause-step : goal.change-requires-clause-step
change-requires-clause-step g c =
    let is = c.requires.step in
    subst (λ (w : Worker). IsStepBelow w.replica.graph.tables (count_of w.replica) c.args.step.now)
    (sym c.reply_to-reply.ensures.same) (command_of c.args.command.now, is.means, is.numbers)

pub change-requires-clause-applied : goal.change-requires-clause-applied
change-requires-clause-applied g c =
    let w = c.args.self.now in
    let k = c.requires.belongs.1.works in
    subst (λ (v : Worker). v.replica.applied + 1 < 2 ^ 32) (sym c.reply_to-reply.ensures.same)
    (lags_few c.args.plan.now (view_of w) w.replica w.pending k.told k.lags)

pub returns-then-found-ne0-clause-works : goal.returns-then-found-ne0-clause-works
returns-then-found-ne0-clause-works g c =
    let p = c.args.plan.now in
    let w = c.args.self.now in
    let k = c.requires.belongs.1 in
    let e = c.compare_exchange-found.ensures in
    let found : ℕ = c.compare_exchange-found.result in
    let n : Numbered ℕ =
    record { number = c.args.next.now.number; command = command_of c.args.command.now } in
    let w' : Worker =
    record {
      seat = c.compare_exchange-found.new.seat;
      session = w.session;
      entries = w.entries;
      own = w.own;
      replica = w.replica;
      pending = Some found;
      tries = w.tries + 1;
    } in
    works_lost p c.args.board.now w w' found k (e.2.2 c.if-found-ne0.true) refl refl refl e.2.3 n
    c.requires.command.next c.requires.way e.0 refl refl refl c.requires.none

pub returns-then-found-ne0-clause-result : goal.returns-then-found-ne0-clause-result
returns-then-found-ne0-clause-result g c =
    let p = c.args.plan.now in
    let w = c.args.self.now in
    let k = c.requires.belongs.1 in
    let e = c.compare_exchange-found.ensures in
    let found : ℕ = c.compare_exchange-found.result in
    let w' : Worker =
    record {
      seat = c.compare_exchange-found.new.seat;
      session = w.session;
      entries = w.entries;
      own = w.own;
      replica = w.replica;
      pending = Some found;
      tries = w.tries + 1;
    } in
    waits_lost p c.args.board.now w w' found k (e.2.2 c.if-found-ne0.true) refl refl refl e.2.3

-- the reply left the worker as it was
enters_same : (v w : Worker) (replica : ReplicaOf) (x : Command ℕ) (entry : Entry) (new : Worker)
    → v ≡ w → Enters (record v { replica = replica }) x entry new
    → Enters (record w { replica = replica }) x entry new
enters_same v w replica x entry new =
    subst (λ (u : Worker). Enters (record u { replica = replica }) x entry new)

-- the worker after its entry
done : (g : _) (c : After-enter g)
    → WorksAt c.args.plan.now c.args.board.now c.enter.new.self
    × Made c.args.plan.now c.args.self.now c.enter.new.self
done g c =
    let p = c.args.plan.now in
    let w = c.args.self.now in
    let k = c.requires.belongs.1 in
    let e = c.compare_exchange-found.ensures in
    let r = c.reply_to-reply.ensures.said in
    let same = c.reply_to-reply.ensures.same in
    let replica : c.reply_to-reply.new.self.replica ≡ w.replica =
    ap (λ (v : Worker). v.replica) same in
    let x = command_of c.args.command.now in
    let n : Numbered ℕ = record { number = c.args.next.now.number; command = x } in
    let is-next = c.requires.command.next in
    let h : Bool = own (journal_of p w) x in
    let lags = lags_now p w k.works c.requires.none in
    let reply = reply_of c.reply_to-reply.result in
    let seen : List ℕ = seen_by w ++ word p w.session c.args.next.now.number x h ∷ [] in
    let w₁ : Worker =
    record w {
      seat = c.compare_exchange-found.new.seat;
      replica = c.change.new.self;
      tries = w.tries + 1;
    } in
    let w' : Worker =
    record w₁ { entries = c.enter.new.self.entries; own = c.enter.new.self.own } in
    let cap = enters_same _ _ c.change.new.self x _ c.enter.new.self same c.enter.ensures in
    let after = subst (λ (v : Worker). (y : Command ℕ) (holds : Bool)
    → Means v.replica.graph.tables c.args.step.now y
    → Replies (naming_in v.replica.graph) (records_of v.replica) v.session holds y reply
    → records_of c.change.new.self
    ≡ records_after by_number (records_of v.replica) v.session holds y)
    same c.change.ensures.after in
    let held : holds_its_target w.own x ≡ h = own_has k.works is-next in
    let said : SaysRow (view p ((w.session, journal_of p w) ∷ []) (seen_by w) (view_of w).also)
    w.session (journal_of p w) x reply =
    says p w.replica (seen_by w) w.session (holds_its_target w.own x) h x reply lags
    held r.replies r.below in
    let goes : Goes (view_of w) w.session (journal_of p w) (row_line (view_of w) w.session n reply)
    seen (view_of w') =
    won_goes p w.session (journal_of p w) (view_of w) (view_of w') n reply k.works.view
    (e.2.1 c.if-found-ne0.false) is-next said in
    let won : Lags p c.change.new.self None seen =
    lags_won p w.replica c.change.new.self (seen_by w)
    (c.change.ensures.count ∙ ap count_of replica)
    (c.change.ensures.graph ∙ ap (λ (v : ReplicaOf). v.graph) replica)
    (c.change.ensures.applied ∙ ap (λ (v : ReplicaOf). v.applied + 1) replica) w.session
    (word p w.session c.args.next.now.number x h) h x lags
    (next_word p w.session (journal_of p w) n h (seen_by w) (plan_is k.works) k.works.session
    (lines_names k.works) is-next c.requires.way)
    (after x (holds_its_target w.own x) c.requires.step.means r.replies
    ∙ ap (λ z. records_after by_number (records_of w.replica) w.session z x) held) in
    let tried : w.tries + 1 ≡ length seen =
    let a = k.works.tries in
    let b = length_push (seen_by w) (word p w.session c.args.next.now.number x h) in
    omega arith in
    entered w₁ c.enter.new.self x _ cap
    (λ v. WorksAt p c.args.board.now v × Made p w v)
    (both_on p c.args.board.now w w' n reply (Row (length (seen_by w))) seen k is-next goes
    _ cap.items
    (is_entry p w n reply (Row (length (seen_by w))) _ c.args.next.now.closing c.requires.command
    refl c.noted.ensures refl (ap Row k.works.tries))
    (cap.notes p.names) refl e.0 e.2.3
    (let m = cap.capacity in omega arith) tried (ap (λ m. m + 1) k.works.tries)
    (subst (λ o. Lags p c.change.new.self o seen) (sym c.requires.none) won)
    (word p w.session c.args.next.now.number x h ∷ [], refl))

pub returns-clause-works : goal.returns-clause-works
returns-clause-works g c = (done g (goal.at.returns-clause-works g c).After-enter).0

pub returns-clause-result : goal.returns-clause-result
returns-clause-result g c = (done g (goal.at.returns-clause-result g c).After-enter).1

pub holds_its_target-holds-requires : goal.holds_its_target-holds-requires
holds_its_target-holds-requires g c =
    own_below c.requires.belongs.1.works c.requires.command.next

pub enter-requires-clause-names : goal.enter-requires-clause-names
enter-requires-clause-names g c =
    subst (λ (w : Worker). IsBelow (length w.own) (command_of c.args.command.now))
    (sym c.reply_to-reply.ensures.same)
    (own_below c.requires.belongs.1.works c.requires.command.next)

pub enter-requires-clause-room : goal.enter-requires-clause-room
enter-requires-clause-room g c =
    subst (λ (w : Worker). vec_len w.entries < vec_capacity w.entries)
    (sym c.reply_to-reply.ensures.same)
    (room_next c.requires.belongs.1.works c.requires.command.next)

pub noted-requires : goal.noted-requires
noted-requires g c = closing_lets_go c.args.next.now.closing c.requires.command c.requires.way
