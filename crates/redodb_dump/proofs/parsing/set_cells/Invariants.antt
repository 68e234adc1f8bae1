use Rattle.std.proofs.Common.{◌≡◌, ◌++◌, List, drop, length}
use Rattle.std.specs.List.{flat_map}
use Rattle.redodb_model.specs.Names.{Text}
use Rattle.redodb_model.specs.State.{State}
use Rattle.redodb_database.specs.Support.Parts.{parts_count}
use Rattle.redodb_dump.specs.Dumps.{IsDumped, cell_line}
use Rattle.redodb_dump.specs.Support.Read.{AreCellsUpTo}
use Rattle.redodb_dump.specs.Support.SetParts.{AreSetUpTo}
use Rattle.redodb_dump.proofs.parsing.set_cells.Given as goal

abbrev pub invariant-loop-n : goal.invariant-loop-n
invariant-loop-n l = record {
  count : parts_count l.loading ≡ parts_count l.fn.loading;
  holders : length l.loading.holders ≡ length l.fn.loading.holders;
  grants : length l.loading.grants ≡ length l.fn.loading.grants;
  set : length l.fn.loading.grants ≡ parts_count l.fn.loading → AreSetUpTo l.fn.loading 0
      → AreSetUpTo l.loading l.n;
  rows : l.loading.rows ≡ l.fn.loading.rows;
  read : (names : List Text) (st : State Text) (more : Text) → IsDumped names st
      → length names ≡ parts_count l.fn.loading → AreCellsUpTo names st l.fn.loading 0
      → l.fn.lines ≡ flat_map (cell_line st) names ++ more
      → (l.left ≡ flat_map (cell_line st) (drop l.n names) ++ more)
      × AreCellsUpTo names st l.loading l.n;
}
