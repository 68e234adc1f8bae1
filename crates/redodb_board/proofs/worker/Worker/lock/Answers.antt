use Rattle.std.proofs.Common.{◌≡◌, ◌≢◌, ℕ, ◌+◌, ◌<◌, length, cond, eqb, Bool, true, false, ◌%◌, ◌/◌, None, option_map, arith, refl, ap}
use Rattle.redodb_model.specs.Command.{Lock}
use Rattle.redodb_model.specs.Placed.{Granted, Busy}
use Rattle.redodb_journal.specs.Journals.{closing_command}
use Rattle.redodb_model.specs.Journals.{Numbered}
use Rattle.redodb_board.specs.Core.{row, claim}
use Rattle.redodb_board.specs.Support.Plays.{lock_line, lock_said, lock_place}
use Rattle.redodb_board.specs.Shown.{journal_of, past}
use Rattle.redodb_board.specs.Kept.{WorksAt, view_of}
use Rattle.redodb_board.specs.Outcomes.{Made}
use Rattle.redodb_board.specs.declared.worker.Worker.{Worker}
use Rattle.redodb_board.proofs.Steps.{locks_as}
use Rattle.redodb_board.proofs.NextSteps.{few_words, target_low, own_below, room_next}
use Rattle.redodb_board.proofs.Works.{entered, is_entry, claim_goes, claimed}
use Rattle.redodb_board.proofs.worker.Worker.lock.Goals as goal
use Rattle.redodb_board.proofs.worker.Worker.lock.Goals.{After-enter}

pub overflow_add-word : goal.overflow_add-word
overflow_add-word c = let a = few_words c.requires.belongs.0 in omega arith

pub overflow_add-word-2 : goal.overflow_add-word-2
overflow_add-word-2 c = let a = few_words c.requires.belongs.0 in omega arith

still : (t w m : ℕ) → past (lock_place t w) m ≡ m
still t w m = by (eqb (w % 2) 0)
  where
    by : (b : Bool) → past (cond b (Granted t (w / 2 + 1)) (Busy t (w / 2 + 1))) m ≡ m
    by true = refl
    by false = refl

no-row : (t : ℕ) → claim t ≢ row
no-row t e = cc

pub fetch_or-found-requires : goal.fetch_or-found-requires
fetch_or-found-requires c =
    let p = c.args.plan.now in
    let w = c.args.self.now in
    let b = c.requires.belongs.0 in
    let k = c.requires.belongs.1 in
    let u : ℕ = c.args.target in
    let n : Numbered ℕ = record { number = c.args.number; command = Lock u } in
    let low : u < length p.names = target_low u k.works c.requires.command.next refl in (
      k.table,
      (let x = b.words in let y = b.rows in omega arith),
      locks_as p c.args.board.now.table.shared.key c.args.board.now.table.shared.table_id.slots
          w.seat.id w.session (journal_of p w) (view_of w) w.seat.me.1 b.key k.works.view
          k.works.session n c.requires.command.next (c.args.board.now.rows + 1 + u) u
          (ap (λ m. m + 1 + u) b.rows) low refl,
    )

-- the worker after its entry
done : (c : After-enter)
    → WorksAt c.args.plan.now c.args.board.now c.enter.new.self
    × Made c.args.plan.now c.args.self.now c.enter.new.self
done c =
    let p = c.args.plan.now in
    let w = c.args.self.now in
    let k = c.requires.belongs.1 in
    let u : ℕ = c.args.target in
    let n : Numbered ℕ = record { number = c.args.number; command = Lock u } in
    let e = c.fetch_or-found.ensures in
    let found : ℕ = c.fetch_or-found.result in
    let cap = c.enter.ensures in
    let told = c.claim_entry.ensures in
    let w₁ : Worker = record w { seat = c.fetch_or-found.new.seat } in
    let w' : Worker =
    record w₁ { entries = c.enter.new.self.entries; own = c.enter.new.self.own } in
    let goes =
    claim_goes p c.args.board.now w (view_of w') n u found lock_line c.requires.belongs.0 k
    c.requires.command.next e.2.0 in
    entered w₁ c.enter.new.self (Lock u) _ cap
    (λ v. WorksAt p c.args.board.now v × Made p w v)
    (claimed p c.args.board.now w w' n (lock_said found) (lock_place u found) k
    c.requires.command.next goes
    _ cap.items
    (is_entry p w n (lock_said found) (lock_place u found) _ None c.requires.command told.number_is
    (ap (option_map closing_command) told.closing) told.said told.at)
    (cap.notes p.names) refl e.0 e.2.2
    (let m = cap.capacity in omega arith) refl refl refl (no-row u) (still u found))

pub returns-clause-works : goal.returns-clause-works
returns-clause-works c = (done (goal.at.returns-clause-works c).After-enter).0

pub returns-clause-made : goal.returns-clause-made
returns-clause-made c = (done (goal.at.returns-clause-made c).After-enter).1

pub enter-requires-clause-room : goal.enter-requires-clause-room
enter-requires-clause-room c = room_next c.requires.belongs.1.works c.requires.command.next

pub enter-requires-clause-names : goal.enter-requires-clause-names
enter-requires-clause-names c = own_below c.requires.belongs.1.works c.requires.command.next
