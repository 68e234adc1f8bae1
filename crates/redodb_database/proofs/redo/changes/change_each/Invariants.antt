use Rattle.std.proofs.Common.{◌≡◌, ℕ, take}
use Rattle.redodb_model.specs.Command as commands
use Rattle.redodb_records.specs.Rows.{room_of, rows_count}
use Rattle.redodb_database.specs.Support.Changes.{AreRowsAfter}
use Rattle.redodb_database.proofs.redo.changes.change_each.Given as goal

abbrev pub invariant-loop-place : goal.invariant-loop-place
invariant-loop-place l = record {
  so_far : AreRowsAfter l.records l.fn.rows l.rows (commands.IfChange l.t (take l.place l.names));
  room : (k : ℕ) → room_of l.rows l.t k ≡ room_of l.fn.rows l.t k;
  count : rows_count l.rows ≡ rows_count l.fn.rows;
}
