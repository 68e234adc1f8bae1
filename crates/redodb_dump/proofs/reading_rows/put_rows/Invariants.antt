use Rattle.std.proofs.Common.{◌≡◌, ◌≤◌, List, length}
use Rattle.std.specs.List.{flat_map}
use Rattle.redodb_model.specs.Names.{Text, text_at}
use Rattle.redodb_model.specs.State.{State}
use Rattle.redodb_records.specs.Rows.{rows_of}
use Rattle.redodb_database.specs.Support.Parts.{AreSameButRows, parts_count}
use Rattle.redodb_dump.specs.Dumps.{IsDumped, numbers_of, row_words_at}
use Rattle.redodb_dump.specs.Support.Read.{AreCellsUpTo, AreRowsUpTo, AreSameButOf, HasNoRowsFrom, joined}
use Rattle.redodb_dump.proofs.NextRows.{words_from}
use Rattle.redodb_dump.proofs.reading_rows.put_rows.Given as goal

abbrev pub invariant-words : goal.invariant-words
invariant-words l = record {
  same : AreSameButRows l.fn.loading l.loading;
  read : (names : List Text) (st : State Text) → (is : IsDumped names st)
      → length names ≡ parts_count l.fn.loading
      → AreCellsUpTo names st l.fn.loading (length names)
      → HasNoRowsFrom (rows_of l.fn.loading.rows) l.t 0
      → l.words ≡ joined (flat_map (row_words_at names st (text_at names l.t)) (numbers_of names))
      → (l.least ≤ length names)
      × (l.left ≡ joined (words_from names st is (text_at names l.t) l.least))
      × AreRowsUpTo names st (rows_of l.loading.rows) l.t l.least
      × AreSameButOf l.t (rows_of l.fn.loading.rows) (rows_of l.loading.rows);
}

abbrev pub decreases-words : goal.decreases-words
decreases-words l = length l.left
