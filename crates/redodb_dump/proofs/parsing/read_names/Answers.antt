use Rattle.std.proofs.Common.{◌∙◌, ◌+◌, ◌<◌, ◌++◌, drop, length, arith}
use Rattle.std.specs.List.{flat_map}
use Rattle.redodb_dump.specs.Dumps.{cell_line}
use Rattle.redodb_dump.proofs.Failing.{err_then}
use Rattle.redodb_dump.proofs.ReadLines.{lines_from}
use Rattle.redodb_dump.proofs.parsing.read_names.Goals as goal

pub returns-in_err-left-clause-only : goal.returns-in_err-left-clause-only
returns-in_err-left-clause-only c = λ all st more is long whole.
    let n = c.loop-n.n in
    let before = c.loop-n.invariant.read all st more is long whole in
    let below : n < length all = omega (arith, long) in
    err_then c.from_residual.result c.in_err-left.field-0.0 _ _ c.from_residual.ensures.1
    (c.in_err-left.ensures.only all st (flat_map (cell_line st) (drop (n + 1) all) ++ more) is below
    before.1 (before.0 ∙ lines_from (cell_line st) all n more below))

pub loop-n-preserved : goal.loop-n-preserved
loop-n-preserved c = record {
  few = c.in_ok-left.ensures.few;
  read = λ all st more is long whole.
      let n = c.loop-n.n in
      let before = c.loop-n.invariant.read all st more is long whole in
      let below : n < length all = omega (arith, long) in
      c.in_ok-left.ensures.only all st (flat_map (cell_line st) (drop (n + 1) all) ++ more) is
      below before.1 (before.0 ∙ lines_from (cell_line st) all n more below);
}
