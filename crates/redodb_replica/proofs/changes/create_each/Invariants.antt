use Rattle.std.proofs.Common.{◌≡◌, ℕ, List, length, take}
use Rattle.redodb_model.specs.Command as commands
use Rattle.redodb_replica.specs.declared.cell.CompactCell.{CompactCell}
use Rattle.redodb_replica.specs.Support.Changes.{ArePlacesOf, AreRowsAfter}
use Rattle.redodb_replica.specs.Support.Entries.{HaveMarks}
use Rattle.redodb_replica.proofs.changes.create_each.Given as goal

abbrev pub invariant-loop-place : goal.invariant-loop-place
invariant-loop-place l = record {
  so_far : (cells : List CompactCell) (t : ℕ) (names : List ℕ)
      → ArePlacesOf l.graph.tables.pairs.items t names l.places
      → AreRowsAfter l.graph.tables cells l.fn.rows l.rows
      (commands.IfCreate t (take l.place-index names));
  count : length l.rows ≡ length l.fn.rows;
  marks : HaveMarks l.graph.tables l.fn.rows → HaveMarks l.graph.tables l.rows;
}
