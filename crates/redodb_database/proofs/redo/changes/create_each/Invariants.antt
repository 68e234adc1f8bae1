use Rattle.std.proofs.Common.{◌≡◌, ℕ, List, take}
use Rattle.redodb_model.specs.Command as commands
use Rattle.redodb_model.specs.State.{Cell}
use Rattle.redodb_records.specs.Rows.{room_of, rows_count}
use Rattle.redodb_database.specs.Support.Changes.{AreRowsAfter}
use Rattle.redodb_database.proofs.redo.changes.create_each.Given as goal

abbrev pub invariant-loop-n : goal.invariant-loop-n
invariant-loop-n l = record {
  so_far : (cells : List Cell)
      → AreRowsAfter cells l.fn.rows l.rows (commands.IfCreate l.t (take l.n-index l.names));
  room : (k : ℕ) → room_of l.rows l.t k ≡ room_of l.fn.rows l.t k;
  count : rows_count l.rows ≡ rows_count l.fn.rows;
}
