use Rattle.std.proofs.Common.{◌≡◌, ◌↔◌, ℕ, ◌+◌, ◌-◌, ◌<◌, ◌≤◌, List, ◌∷◌, [], ◌++◌, length, Option, IsSome, option_map, refl, sym, ap, ◌∙◌, subst, arith, append_assoc, MatchBool}
use Rattle.std.proofs.lemmas.Result.{err_from_is_err_and}
use Rattle.redodb_model.specs.Command.{Command}
use Rattle.redodb_commands.specs.Meaning.{command_of}
use Rattle.redodb_commands.specs.declared.command.Command as terms
use Rattle.redodb_journal.specs.Plans.{PlanOf, script_of}
use Rattle.redodb_journal.specs.Journals.{command_by}
use Rattle.redodb_board.specs.declared.worker.Worker.{Worker}
use Rattle.redodb_board.specs.Rows.{rows_of}
use Rattle.redodb_board.specs.Kept.{WorksAt}
use Rattle.redodb_board.specs.Core.{Begins}
use Rattle.redodb_board.specs.Shown.{seen_by}
use Rattle.redodb_board.specs.Plays.{own_way}
use Rattle.redodb_board.specs.Support.Shown.{IsNextBy}
use Rattle.redodb_board.specs.Support.Steps.{IsStepOf, IsReadyBy}
use Rattle.redodb_board.specs.Outcomes.{Made, Waits}
use Rattle.redodb_board.proofs.Works.{waits-same}
use Rattle.redodb_board.proofs.worker.Worker.place.Goals as goal

-- it still waits after the others' words, and after a look at an empty row
still : {p : PlanOf} {w v : Worker} (u x : Worker) → Waits p w v → u.session ≡ v.session
    → u.entries ≡ v.entries → u.seat ≡ v.seat → x ≡ u → Waits p w x
still {p = p} {w = w} {v = v} u x waits session entries seat same =
    subst (Waits p w) (sym same) (waits-same p w v u waits session entries seat)

-- the command of one that waits is still next
next-on : {p : PlanOf} {w v : Worker} {number : ℕ} {closing : Option terms.Command}
    {x : Command ℕ} → v.session ≡ w.session → Waits p w v → IsNextBy p w number closing x
    → IsNextBy p v number closing x
next-on {p = p} {number = number} {closing = closing} session waits is = record {
  next = waits.next ∙ is.next;
  told =
      (λ i. command_by (script_of p (session i)) (option_map command_of closing) number) ∙ is.told;
  marked =
      subst (λ s. IsSome closing ↔ (length (script_of p s) ≤ number)) (sym session) is.marked;
}

-- a beginning of a beginning is a beginning
begins-on : (new seen old : List ℕ) → Begins new seen → Begins seen old → Begins new old
begins-on new seen old after before = (
  before.0 ++ after.0,
  after.1 ∙ ap (λ xs. xs ++ after.0) before.1 ∙ append_assoc old before.0 after.0,
)

-- one that waits on still waits
waits-on : {p : PlanOf} {w v u : Worker} → Waits p w v → Waits p v u → Waits p w u
waits-on {w = w} {v = v} {u = u} before after = record {
  same = after.same ∙ before.same;
  next = after.next ∙ before.next;
  begins = begins-on (seen_by u) (seen_by v) (seen_by w) after.begins before.begins;
}

-- what is made after waiting
made-on : {p : PlanOf} {w v u : Worker} → v.session ≡ w.session → Waits p w v → Made p v u
    → Made p w u
made-on {w = w} {v = v} {u = u} session before made = record {
  line = made.line;
  grown = made.grown ∙ ap (λ ls. ls ++ made.line ∷ []) before.same;
  session = made.session ∙ session;
  next = sym before.next ∙ made.next;
  ends = made.ends;
  begins = begins-on (seen_by u) (seen_by v) (seen_by w) made.begins before.begins;
  tries = made.tries;
}

-- one row more was seen
one-less : (rows most before after : ℕ) → rows ≡ most → before < most → after ≡ before + 1
    → rows - after < rows - before
one-less rows most before after same below more = omega arith

pub pass_row-requires : goal.pass_row-requires
pass_row-requires g c =
    let u = c.catch_up.new.self in
    let e = c.catch_up.ensures in
    let waits = still u u c.rows.invariant.2 e.same.0 e.same.1 e.seat refl in
    record {
      belongs = (
        c.requires.belongs.0,
        record {
          table = (λ i. (e.seat i).table_id) ∙ c.rows.invariant.0.table;
          works = e.works;
        },
      );
      command = next-on (e.same.0 ∙ c.rows.invariant.1) waits c.requires.command;
      way = ap (λ j. own_way j (command_of c.args.command.now)) waits.same ∙ c.requires.way;
      none = e.caught_up;
    }

pub rows-preserved-then-pass_row : goal.rows-preserved-then-pass_row
rows-preserved-then-pass_row g c =
    let u = c.catch_up.new.self in
    let e = c.catch_up.ensures in (
      c.pass_row.ensures.works,
      c.pass_row.ensures.session ∙ e.same.0 ∙ c.rows.invariant.1,
      waits-on (still u u c.rows.invariant.2 e.same.0 e.same.1 e.seat refl)
          c.pass_row.ensures.waits,
    )

pub step_next-step-requires : goal.step_next-step-requires
step_next-step-requires g c =
    let e = c.catch_up.ensures in
    let waits =
    still c.catch_up.new.self c.pass_row.new.self c.rows.invariant.2 e.same.0 e.same.1 e.seat
    (c.pass_row.ensures.same c.if-pass_row.false) in
    record {
      works = c.pass_row.ensures.works.works;
      command =
          next-on (c.pass_row.ensures.session ∙ e.same.0 ∙ c.rows.invariant.1) waits
          c.requires.command;
      way = ap (λ j. own_way j (command_of c.args.command.now)) waits.same ∙ c.requires.way;
    }

pub returns-in_err-list-clause-works : goal.returns-in_err-list-clause-works
returns-in_err-list-clause-works g c =
    subst (WorksAt c.args.plan.now c.args.board.now) (sym c.list_first.ensures.same)
    c.pass_row.ensures.works

pub returns-in_err-list-clause-session : goal.returns-in_err-list-clause-session
returns-in_err-list-clause-session g c =
    (λ i. (c.list_first.ensures.same i).session)
    ∙ c.pass_row.ensures.session ∙ c.catch_up.ensures.same.0 ∙ c.rows.invariant.1

pub returns-in_err-list-clause-err : goal.returns-in_err-list-clause-err
returns-in_err-list-clause-err g c =
    let e = c.catch_up.ensures in
    let failed = err_from_is_err_and c.from_residual.result
    c.from_residual.ensures.1 in
    rw failed.1
    (still c.catch_up.new.self c.list_first.new.self c.rows.invariant.2 e.same.0 e.same.1 e.seat
    (c.list_first.ensures.same ∙ c.pass_row.ensures.same c.if-pass_row.false))

pub try_row-requires : goal.try_row-requires
try_row-requires g c =
    let u = c.catch_up.new.self in
    let x = c.list_first.new.self in
    let e = c.catch_up.ensures in
    let command = command_of c.args.command.now in
    let listed = c.list_first.ensures.same in
    let same : x ≡ u = listed ∙ c.pass_row.ensures.same c.if-pass_row.false in
    let waits = still u x c.rows.invariant.2 e.same.0 e.same.1 e.seat same in
    record {
      belongs = (
        c.requires.belongs.0,
        subst (WorksAt c.args.plan.now c.args.board.now) (sym listed) c.pass_row.ensures.works,
      );
      command =
          next-on ((λ i. (same i).session) ∙ e.same.0 ∙ c.rows.invariant.1) waits
          c.requires.command;
      way = ap (λ j. own_way j command) waits.same ∙ c.requires.way;
      none = (λ i. (same i).pending) ∙ e.caught_up;
      step =
          subst (λ v. IsStepOf v c.step_next-step.result command) (sym listed)
          c.step_next-step.ensures;
      ready =
          subst (λ v. IsReadyBy v command c.in_ok-list.list) (sym listed) c.in_ok-list.ensures.ready;
    }

pub returns-then-try_row-clause-session : goal.returns-then-try_row-clause-session
returns-then-try_row-clause-session g c =
    c.try_row.ensures.session ∙ (λ i. (c.list_first.ensures.same i).session)
    ∙ c.pass_row.ensures.session ∙ c.catch_up.ensures.same.0 ∙ c.rows.invariant.1

pub returns-then-try_row-clause-ok : goal.returns-then-try_row-clause-ok
returns-then-try_row-clause-ok g c =
    let p = c.args.plan.now in
    let u = c.catch_up.new.self in
    let x = c.list_first.new.self in
    let e = c.catch_up.ensures in
    let same : x ≡ u = c.list_first.ensures.same ∙ c.pass_row.ensures.same c.if-pass_row.false in
    made-on ((λ i. (same i).session) ∙ e.same.0 ∙ c.rows.invariant.1)
    (still u x c.rows.invariant.2 e.same.0 e.same.1 e.seat same)
    (subst (λ r. MatchBool r (Made p x c.try_row.new.self) (Waits p x c.try_row.new.self))
    c.if-try_row.true c.try_row.ensures.result)

pub rows-smaller : goal.rows-smaller
rows-smaller g c =
    let same : c.list_first.new.self.tries ≡ c.rows.self.tries =
    (λ i. (c.list_first.ensures.same i).tries)
    ∙ (λ i. (c.pass_row.ensures.same c.if-pass_row.false i).tries) ∙ c.catch_up.ensures.same.2 in
    let most : ℕ = rows_of c.args.plan.now in
    one-less c.args.board.now.rows most c.rows.self.tries c.try_row.new.self.tries
    c.requires.belongs.0.rows (subst (λ n. n < most) same c.try_row.ensures.row)
    (c.try_row.ensures.tries ∙ ap (λ n. n + 1) same)

pub rows-preserved : goal.rows-preserved
rows-preserved g c =
    let p = c.args.plan.now in
    let u = c.catch_up.new.self in
    let x = c.list_first.new.self in
    let e = c.catch_up.ensures in
    let same : x ≡ u = c.list_first.ensures.same ∙ c.pass_row.ensures.same c.if-pass_row.false in (
      c.try_row.ensures.works,
      c.try_row.ensures.session ∙ (λ i. (same i).session) ∙ e.same.0 ∙ c.rows.invariant.1,
      waits-on (still u x c.rows.invariant.2 e.same.0 e.same.1 e.seat same)
          (subst (λ r. MatchBool r (Made p x c.try_row.new.self) (Waits p x c.try_row.new.self))
          c.if-try_row.false c.try_row.ensures.result),
    )
