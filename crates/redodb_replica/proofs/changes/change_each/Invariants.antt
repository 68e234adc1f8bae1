use Rattle.std.proofs.Common.{◌≡◌, ℕ, List, length, take}
use Rattle.redodb_model.specs.Command as commands
use Rattle.redodb_replica.specs.Support.Changes.{ArePlacesOf, AreRowsAfter}
use Rattle.redodb_replica.specs.Support.Entries.{HaveEntries, HaveMarks}
use Rattle.redodb_replica.proofs.changes.change_each.Given as goal

abbrev pub invariant-loop-place : goal.invariant-loop-place
invariant-loop-place l = record {
  so_far : (t : ℕ) (names : List ℕ) → ArePlacesOf l.graph.tables.pairs.items t names l.places
      → AreRowsAfter l.graph.tables l.cells l.fn.rows l.rows
      (commands.IfChange t (take l.place-index names));
  count : length l.rows ≡ length l.fn.rows;
  marks : HaveEntries l.graph.tables l.cells → HaveMarks l.graph.tables l.fn.rows
      → HaveMarks l.graph.tables l.rows;
}
