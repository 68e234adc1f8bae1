use Rattle.std.proofs.Common.{◌≡◌, ◌≤◌, ◌+◌, List, length}
use Rattle.std.specs.List.{flat_map}
use Rattle.redodb_model.specs.Names.{Text}
use Rattle.redodb_model.specs.State.{State}
use Rattle.redodb_history.specs.Histories.{ended}
use Rattle.redodb_records.specs.Rows.{rows_of}
use Rattle.redodb_database.specs.Support.Parts.{AreSameButRows, parts_count}
use Rattle.redodb_dump.specs.Dumps.{IsDumped, numbers_of, rows_line}
use Rattle.redodb_dump.specs.Support.Read.{AreCellsUpTo, AreTargetsUpTo}
use Rattle.redodb_dump.proofs.NextRows.{lines_left}
use Rattle.redodb_dump.proofs.reading_rows.put_targets.Given as goal

abbrev pub invariant-loop-number : goal.invariant-loop-number
invariant-loop-number l = record {
  same : AreSameButRows l.fn.loading l.loading;
  read : (names : List Text) (st : State Text) → (is : IsDumped names st)
      → length names ≡ parts_count l.fn.loading
      → AreCellsUpTo names st l.fn.loading (length names)
      → AreTargetsUpTo names st (rows_of l.fn.loading.rows) 0
      → l.lines ≡ flat_map (rows_line names st) (numbers_of names)
      → (l.least ≤ length names)
      × (l.left ≡ flat_map ended (lines_left names st is l.least))
      × AreTargetsUpTo names st (rows_of l.loading.rows) l.least
      × (l.number ≤ l.first + l.least);
}
