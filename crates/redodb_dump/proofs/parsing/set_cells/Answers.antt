use Rattle.std.proofs.Common.{◌∙◌, ◌+◌, ◌<◌, ◌++◌, drop, length, sym, arith}
use Rattle.std.specs.List.{flat_map}
use Rattle.redodb_dump.specs.Dumps.{cell_line}
use Rattle.redodb_dump.proofs.ReadLines.{lines_from}
use Rattle.redodb_dump.proofs.parsing.set_cells.Goals as goal

pub returns-in_err-left-clause-only : goal.returns-in_err-left-clause-only
returns-in_err-left-clause-only c = λ names st more is long cells whole.
    let n = c.loop-n.n in
    let before = c.loop-n.invariant.read names st more is long cells whole in
    let below : n < length names = omega (arith, long) in
    absurd (c.in_err-left.ensures.only names st
    (flat_map (cell_line st) (drop (n + 1) names) ++ more) is below before.1
    (before.0 ∙ lines_from (cell_line st) names n more below))

pub loop-n-preserved : goal.loop-n-preserved
loop-n-preserved c =
    let old = c.loop-n.invariant in
    let now = c.in_ok-left.ensures in
    record {
      count = now.count ∙ old.count;
      holders = now.holders ∙ old.holders;
      grants = now.grants ∙ old.grants;
      set = λ sized none. now.set (old.grants ∙ sized ∙ sym old.count) (old.set sized none);
      rows = now.rows ∙ old.rows;
      read = λ names st more is long cells whole.
          let n = c.loop-n.n in
          let before = old.read names st more is long cells whole in
          let below : n < length names = omega (arith, long) in
          now.only names st (flat_map (cell_line st) (drop (n + 1) names) ++ more) is below
          before.1 (before.0 ∙ lines_from (cell_line st) names n more below);
    }
