use Rattle.std.proofs.Common.{ℕ, ◌+◌, ◌-◌, ap, ◌∙◌, List, [], ◌∷◌, ◌++◌, length, length-append, refl, sym, subst, inr, arith}
use Rattle.std.proofs.lemmas.Grind.{common_steps}
use Rattle.std.proofs.lemmas.Result.{err_from_is_err_and}
use Rattle.std.specs.Prelude.{Contains}
use Rattle.redodb_model.specs.Names.{Text}
use Rattle.redodb_model.specs.History.{Line}
use Rattle.redodb_history.proofs.TextCuts.{has_lf}
use Rattle.redodb_log.specs.Restores.{IsRestoredTo}
use Rattle.redodb_log.specs.Support.Steps.{DoesNext, NothingFollows}
use Rattle.redodb_log.proofs.Dumped.{first_is}
use Rattle.redodb_log.proofs.Stepping.{done_at_first, done_more, done_all, fewer_left, log_done, differs_behind, no_log, sizes, room_cause, room_within, restored_to}
use Rattle.redodb_log.proofs.restoring.restore_lines.Goals as goal

pub lines-init : goal.lines-init
lines-init c = (
  omega arith,
  λ past begins. (
    [],
    done_at_first past c.args.log.now c.args.lines.now c.args.live begins,
    refl,
  ),
)

pub returns-in_err-rest-clause-only : goal.returns-in_err-rest-clause-only
returns-in_err-rest-clause-only c past done torn begins is =
    let p = err_from_is_err_and c.from_residual.result
    c.from_residual.ensures.1 in
    rw (p.1, p.2) c.in_err-rest.ensures.room

pub returns-in_err-rest-clause-cause : goal.returns-in_err-rest-clause-cause
returns-in_err-rest-clause-cause c =
    let p = err_from_is_err_and c.from_residual.result
    c.from_residual.ensures.1 in
    let has : Contains c.lines.left.now 10 =
    subst (λ (t : Text). Contains t 10) (sym c.in-Some.ensures.0)
    (has_lf c.in-Some.text.now c.in-Some.field-0-1.now 10) in
    rw (p.1, p.2) (λ past begins.
    let (lines, is, counted) = c.lines.invariant.1 past begins in
    room_cause past c.args.log.now c.lines.left.now lines c.lines.again.live
    c.in_err-rest.field-0.0 is has c.in_err-rest.ensures.room c.in_err-rest.ensures.worn)

pub returns-in_default-2-clause-only : goal.returns-in_default-2-clause-only
returns-in_default-2-clause-only c past done torn begins =
    let (lines, is, counted) = c.lines.invariant.1 past begins in
    let left = c.lines.left.now in
    let none : NothingFollows c.lines.again.live left =
    rw c.in_default-2.is at c.in_ok-rest.ensures.next in
    let has : Contains left 10 =
    subst (λ (t : Text). Contains t 10) (sym c.in-Some.ensures.0)
    (has_lf c.in-Some.text.now c.in-Some.field-0-1.now 10) in
    no_log past c.args.log.now left lines c.lines.again.live is none has done torn

pub returns-in_default-2-clause-cause : goal.returns-in_default-2-clause-cause
returns-in_default-2-clause-cause c past begins =
    let (lines, is, counted) = c.lines.invariant.1 past begins in
    let first = ap (λ (n : ℕ). n + 1) c.lines_in-first.ensures.count
    ∙ first_is past c.args.log.now c.args.lines.now begins.parts in
    let left = c.lines.left.now in
    let none : NothingFollows c.lines.again.live left =
    rw c.in_default-2.is at c.in_ok-rest.ensures.next in
    let has : Contains left 10 =
    subst (λ (t : Text). Contains t 10) (sym c.in-Some.ensures.0)
    (has_lf c.in-Some.text.now c.in-Some.field-0-1.now 10) in
    let size = sizes past c.args.log.now left lines c.lines.again.live is in
    inr (
      lines,
      differs_behind past c.args.log.now left lines c.lines.again.live is none has,
      omega arith,
      counted,
      omega arith,
    )

pub lines-preserved : goal.lines-preserved
lines-preserved c =
    let old = c.lines.again.live in
    let new = c.redo.new.self.live in
    let next : DoesNext old new c.lines.left.now c.in-Some-2.rest.now =
    rw c.in-Some-2.is at c.in_ok-rest.ensures.next in
    let fewer = fewer_left old new c.lines.left.now c.in-Some-2.rest.now next in
    let few = c.lines.invariant.0 in (
      omega arith,
      λ past begins.
          let (lines, is, counted) = c.lines.invariant.1 past begins in (
            lines ++ next.line ∷ [],
            done_more past c.args.log.now lines old new c.lines.left.now c.in-Some-2.rest.now is
                next,
            omega (arith, length-append lines (next.line ∷ [])),
          ),
    )

pub returns-clause-restored : goal.returns-clause-restored
returns-clause-restored c past begins =
    let (lines, is, counted) = c.lines.invariant.1 past begins in
    let left = c.lines.left.now in
    let live = c.lines.again.live in (
      lines,
      left,
      log_done past c.args.log.now left lines live is c.in_default.ensures,
      restored_to past c.args.log.now left c.args.lines.now lines live c.lines.count is
          begins.parts counted,
    )

pub returns-clause-same : goal.returns-clause-same
returns-clause-same c past done torn begins log_of =
    let (lines, is, counted) = c.lines.invariant.1 past begins in
    let left = c.lines.left.now in
    let live = c.lines.again.live in
    let same = done_all past c.args.log.now left torn lines done live is c.in_default.ensures
    log_of in
    subst (λ (ls : List (Line Text)). IsRestoredTo past ls (record {
      live = live;
      lines = c.lines.count;
      head = length c.args.log.now - length c.args.lines.now;
      bytes = length c.args.log.now - length left;
    })) (sym same) (restored_to past c.args.log.now left c.args.lines.now lines live c.lines.count
    is begins.parts counted)

pub overflow_add-result : goal.overflow_add-result
overflow_add-result c = let few = c.lines.invariant.0 in grind (arith, common_steps)

pub overflow_add-count : goal.overflow_add-count
overflow_add-count c = let few = c.lines.invariant.0 in grind (arith, common_steps)

pub overflow_sub-result : goal.overflow_sub-result
overflow_sub-result c = let few = c.lines.invariant.0 in grind (arith, common_steps)

pub lines-smaller : goal.lines-smaller
lines-smaller c = grind (arith, common_steps)

pub returns-in_err-rest-clause-cut : goal.returns-in_err-rest-clause-cut
returns-in_err-rest-clause-cut c =
    let p = err_from_is_err_and c.from_residual.result
    c.from_residual.ensures.1 in
    rw (p.1, p.2) (room_within (length c.args.log.now) c.in_err-rest.field-0.0
    c.in_err-rest.ensures.room)
