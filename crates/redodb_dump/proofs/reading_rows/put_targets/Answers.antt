use Rattle.std.proofs.Common.{◌≡◌, ◌∙◌, ◌-◌, length, arith, sym, ap, subst}
use Rattle.std.specs.List.{flat_map, range_with_len}
use Rattle.redodb_history.specs.Histories.{ended}
use Rattle.redodb_records.specs.Rows.{rows_of}
use Rattle.redodb_dump.specs.Dumps.{numbers_of}
use Rattle.redodb_dump.specs.Support.Read.{AreTargetsUpTo}
use Rattle.redodb_dump.proofs.DumpLines.{lines_at, rows_part}
use Rattle.redodb_dump.proofs.Failing.{err_then}
use Rattle.redodb_dump.proofs.NextRows.{lines_left, next_target, no_next_target}
use Rattle.redodb_dump.proofs.ReadTargets.{targets_until}
use Rattle.redodb_dump.proofs.SameParts.{cells_kept, same_after, same_parts}
use Rattle.redodb_dump.proofs.reading_rows.put_targets.Goals as goal

pub loop-number-init : goal.loop-number-init
loop-number-init c = record {
  same = same_parts c.args.loading.now;
  read = λ names st is long cells targets whole.
      let all : length names ≡ length names - 0 = omega arith in (
        omega arith,
        whole ∙ rows_part names st (numbers_of names)
            ∙ ap (λ n. flat_map ended (flat_map (lines_at names st) (range_with_len 0 n))) all,
        targets,
        omega arith,
      );
}

pub returns-in_err-least-clause-only : goal.returns-in_err-least-clause-only
returns-in_err-least-clause-only c = λ names st small is long cells targets whole.
    let before = c.loop-number.invariant.read names st is long cells targets whole in
    let found =
    next_target names st is c.loop-number.least c.loop-number.left.now c.in-Some.line.now
    c.in-Some.rest.now before.0 before.1 c.in-Some.ensures in
    let next = found.1 in
    let same = c.loop-number.invariant.same in
    let counted = long ∙ sym (ap length same.cells) in
    let kept = cells_kept names st (length names) same cells in
    let are =
    targets_until names st is (rows_of c.loop-number.loading.rows) c.loop-number.least found.0
    before.2 next.from next.none in
    err_then c.from_residual.result c.in_err-least.field-0.0 _ _ c.from_residual.ensures.1
    (c.in_err-least.ensures.only names st found.0 is counted kept next.from next.below are
    next.line_says)

pub loop-number-preserved : goal.loop-number-preserved
loop-number-preserved c = record {
  same = same_after c.loop-number.invariant.same c.put_target.ensures.same;
  read = λ names st is long cells targets whole.
      let before = c.loop-number.invariant.read names st is long cells targets whole in
      let found =
      next_target names st is c.loop-number.least c.loop-number.left.now c.in-Some.line.now
      c.in-Some.rest.now before.0 before.1 c.in-Some.ensures in
      let next = found.1 in
      let same = c.loop-number.invariant.same in
      let counted = long ∙ sym (ap length same.cells) in
      let kept = cells_kept names st (length names) same cells in
      let are =
      targets_until names st is (rows_of c.loop-number.loading.rows) c.loop-number.least found.0
      before.2 next.from next.none in
      let put =
      c.in_ok-least.ensures.only names st found.0 is counted kept next.from next.below are
      next.line_says in
      let after = put.0 in
      let few = before.3 in (
        omega (arith, after, next.below),
        next.rest_is ∙ ap (λ m. flat_map ended (lines_left names st is m)) (sym after),
        subst (AreTargetsUpTo names st (rows_of c.put_target.new.loading.rows)) (sym after) put.1,
        omega (arith, after, few, next.from),
      );
}

pub returns-after-loop-number-clause-only : goal.returns-after-loop-number-clause-only
returns-after-loop-number-clause-only c = λ names st small is long cells targets whole.
    let before = c.loop-number.invariant.read names st is long cells targets whole in
    let most = is.few in
    absurd (omega (arith, small, most, before.0, before.3))

pub returns-in_default-clause-only : goal.returns-in_default-clause-only
returns-in_default-clause-only c = λ names st small is long cells targets whole.
    let before = c.loop-number.invariant.read names st is long cells targets whole in
    targets_until names st is (rows_of c.loop-number.loading.rows) c.loop-number.least
    (length names) before.2 before.0
    (no_next_target names st is c.loop-number.least c.loop-number.left.now before.0 before.1
    c.in_default.ensures)
