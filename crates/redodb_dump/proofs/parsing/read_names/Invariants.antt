use Rattle.std.proofs.Common.{◌≡◌, ◌≤◌, ◌++◌, List, drop, length, take}
use Rattle.std.specs.List.{flat_map}
use Rattle.redodb_model.specs.Names.{Text}
use Rattle.redodb_model.specs.State.{State}
use Rattle.redodb_dump.specs.Dumps.{IsDumped, cell_line}
use Rattle.redodb_dump.proofs.parsing.read_names.Given as goal

abbrev pub invariant-loop-n : goal.invariant-loop-n
invariant-loop-n l = record {
  few : length l.names ≤ 16777216;
  read : (all : List Text) (st : State Text) (more : Text) → IsDumped all st
      → length all ≡ l.count → l.fn.lines ≡ flat_map (cell_line st) all ++ more
      → (l.left ≡ flat_map (cell_line st) (drop l.n all) ++ more) × (l.names ≡ take l.n all);
}
