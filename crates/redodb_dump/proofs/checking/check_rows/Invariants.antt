use Rattle.std.proofs.Common.{◌≡◌, ◌+◌, ◌≤◌, ◌++◌, length}
use Rattle.std.specs.List.{flat_map, range_with_len}
use Rattle.redodb_live.specs.Support.LiveState.{state_in}
use Rattle.redodb_dump.specs.Dumps.{rows_line}
use Rattle.redodb_dump.specs.Support.Forms.{HaveRowForms}
use Rattle.redodb_dump.proofs.checking.check_rows.Given as goal

abbrev pub invariant-loop-t : goal.invariant-loop-t
invariant-loop-t l = record {
  text : l.fn.lines
      ≡ flat_map (rows_line l.live.names (state_in l.live)) (range_with_len 0 l.t) ++ l.left;
  forms : HaveRowForms l.live.names (state_in l.live) l.t;
  few : l.number ≤ length l.live.names + 2 + l.t;
}
