use Rattle.std.proofs.Common.{◌≡◌, ℕ, ◌+◌, [], length, Some, refl, sym, ap, ◌∙◌, subst, arith}
use Rattle.std.proofs.lemmas.List.{length_push, append-nil}
use Rattle.redodb_model.specs.Journals.{Numbered}
use Rattle.redodb_commands.specs.Meaning.{command_of}
use Rattle.redodb_board.specs.Views.{ViewOf}
use Rattle.redodb_board.specs.Support.Plays.{Lost}
use Rattle.redodb_board.specs.Shown.{journal_of, seen_by}
use Rattle.redodb_board.specs.Kept.{WorksAt, view_of}
use Rattle.redodb_board.specs.Outcomes.{Waits}
use Rattle.redodb_board.specs.declared.worker.Worker.{Worker}
use Rattle.redodb_board.proofs.Steps.{loses_as, peeks_as, peeked_keeps, lost_after}
use Rattle.redodb_board.proofs.NextSteps.{few_words, own_below, row_next}
use Rattle.redodb_board.proofs.Works.{works_lost, waits_lost}
use Rattle.redodb_board.proofs.worker.Worker.pass_row.Goals as goal
use Rattle.redodb_board.proofs.worker.Worker.pass_row.Goals.{After-compare_exchange-found, Then-word-eq0}

pub load-word-requires : goal.load-word-requires
load-word-requires g c =
    let p = c.args.plan.now in
    let w = c.args.self.now in
    let b = c.requires.belongs.0 in
    let k = c.requires.belongs.1 in
    let n : Numbered ℕ =
    record { number = c.args.next.now.number; command = command_of c.args.command.now } in
    let is-next = c.requires.command.next in
    let near = row_next k.works is-next c.requires.way in (
      k.table,
      (let x = b.words in omega arith),
      peeks_as p c.args.board.now.table.shared.key c.args.board.now.table.shared.table_id.slots
          w.seat.id w.session (journal_of p w) (view_of w) w.seat.me.1 b.key k.works.view
          k.works.session n is-next w.tries k.works.tries near,
    )

-- a load of an empty row changes nothing
unchanged : (g : _) (c : Then-word-eq0 g)
    → record c.args.self.now { seat = c.load-word.new.seat } ≡ c.args.self.now
unchanged g c =
    let e = c.load-word.ensures in
    let zero = c.if-word-eq0.true in
    λ i. record c.args.self.now {
      seat = record {
        table_id = e.0 i;
        id = e.1 i;
        me = (e.2.1 zero i, e.2.3 i);
        marker = c.args.self.now.seat.marker;
      };
    }

pub returns-then-word-eq0-clause-same : goal.returns-then-word-eq0-clause-same
returns-then-word-eq0-clause-same g c = λ empty. unchanged g c

pub returns-then-word-eq0-clause-works : goal.returns-then-word-eq0-clause-works
returns-then-word-eq0-clause-works g c =
    subst (WorksAt c.args.plan.now c.args.board.now) (sym (unchanged g c)) c.requires.belongs.1

pub returns-then-word-eq0-clause-waits : goal.returns-then-word-eq0-clause-waits
returns-then-word-eq0-clause-waits g c =
    let w = c.args.self.now in
    subst (Waits c.args.plan.now w) (sym (unchanged g c))
    (record { same = refl; next = refl; begins = ([], sym (append-nil (seen_by w))) })

pub holds_its_target-holds-requires : goal.holds_its_target-holds-requires
holds_its_target-holds-requires g c =
    own_below c.requires.belongs.1.works c.requires.command.next

pub compare_exchange-found-requires : goal.compare_exchange-found-requires
compare_exchange-found-requires g c =
    let p = c.args.plan.now in
    let w = c.args.self.now in
    let b = c.requires.belongs.0 in
    let k = c.requires.belongs.1 in
    let e = c.load-word.ensures in
    let n : Numbered ℕ =
    record { number = c.args.next.now.number; command = command_of c.args.command.now } in
    let is-next = c.requires.command.next in
    let near = row_next k.works is-next c.requires.way in
    let v : ViewOf = c.load-word.new.seat.me.0 in
    let found : ℕ = c.load-word.result in
    let peek = e.2.2 c.if-word-eq0.false in
    let keeps = peeked_keeps p w.session found (journal_of p w) (view_of w) v k.works.view peek in
    let shown = ap (λ (x : ViewOf). length x.also) peek.now in
    let long = length_push (seen_by w) found in
    let saw = ap length keeps.saw in
    let tries = k.works.tries in (
      e.0 ∙ k.table,
      (let x = b.words in omega arith),
      loses_as p c.args.board.now.table.shared.key c.args.board.now.table.shared.table_id.slots
          c.load-word.new.seat.id w.session (journal_of p w) v c.load-word.new.seat.me.1 b.key
          keeps.is k.works.session n is-next w.tries c.word_of-own.result (omega arith) near
          (omega arith),
    )

pub overflow_add-self : goal.overflow_add-self
overflow_add-self g c =
    let near =
    row_next c.requires.belongs.1.works c.requires.command.next c.requires.way in
    omega (arith, few_words c.requires.belongs.0, c.requires.belongs.0.rows)

-- the exchange lost the row
lost : (g : _) (c : After-compare_exchange-found g)
    → Lost (view_of c.args.self.now) c.compare_exchange-found.result
    c.compare_exchange-found.new.seat.me.0
lost g c =
    lost_after (view_of c.args.self.now) c.load-word.new.seat.me.0
    c.compare_exchange-found.new.seat.me.0 c.load-word.result c.compare_exchange-found.result
    (c.load-word.ensures.2.2 c.if-word-eq0.false) c.compare_exchange-found.ensures.2.2

pub returns-clause-works : goal.returns-clause-works
returns-clause-works g c =
    let w = c.args.self.now in
    let e = c.load-word.ensures in
    let x = c.compare_exchange-found.ensures in
    let found : ℕ = c.compare_exchange-found.result in
    let n : Numbered ℕ =
    record { number = c.args.next.now.number; command = command_of c.args.command.now } in
    let w' : Worker =
    record w {
      seat = c.compare_exchange-found.new.seat;
      pending = Some found;
      tries = w.tries + 1;
    } in
    works_lost c.args.plan.now c.args.board.now w w' found c.requires.belongs.1
    (lost g (goal.at.returns-clause-works g c).After-compare_exchange-found) refl refl refl
    (x.2.3 ∙ e.2.3) n c.requires.command.next c.requires.way (x.0 ∙ e.0) refl refl refl
    c.requires.none

pub returns-clause-row : goal.returns-clause-row
returns-clause-row g c = λ filled.
    row_next c.requires.belongs.1.works c.requires.command.next c.requires.way

pub returns-clause-waits : goal.returns-clause-waits
returns-clause-waits g c =
    let w = c.args.self.now in
    let e = c.load-word.ensures in
    let x = c.compare_exchange-found.ensures in
    let found : ℕ = c.compare_exchange-found.result in
    let w' : Worker =
    record w {
      seat = c.compare_exchange-found.new.seat;
      pending = Some found;
      tries = w.tries + 1;
    } in
    waits_lost c.args.plan.now c.args.board.now w w' found c.requires.belongs.1
    (lost g (goal.at.returns-clause-waits g c).After-compare_exchange-found) refl refl refl
    (x.2.3 ∙ e.2.3)

pub returns-clause-tries : goal.returns-clause-tries
returns-clause-tries g c = λ filled. refl
