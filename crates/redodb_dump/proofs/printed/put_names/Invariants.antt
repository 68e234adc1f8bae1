use Rattle.std.proofs.Common.{◌≡◌, ◌++◌, take}
use Rattle.std.specs.List.{flat_map}
use Rattle.redodb_live.specs.Support.LiveState.{state_in}
use Rattle.redodb_dump.specs.Dumps.{cell_line}
use Rattle.redodb_dump.specs.Support.Forms.{HaveNameForms}
use Rattle.redodb_dump.proofs.printed.put_names.Given as goal

abbrev pub invariant-loop-n : goal.invariant-loop-n
invariant-loop-n l = record {
  text : l.out.items
      ≡ l.fn.out.items
      ++ flat_map (cell_line (state_in l.live)) (take l.n l.live.names);
  forms : HaveNameForms l.live.names (state_in l.live) l.n;
}
