-- The value of the database's fields, and their invariant.
use Rattle.std.specs.Prelude.{◌≡◌, ◌↔◌, ℕ, Bool, List, Option, None, IsSome, length, slice_index_or}
use Rattle.redodb_memo.specs.Bits.{IsSet}
use Rattle.redodb_memo.specs.Memo.{memo_count, IsRight}
use Rattle.redodb_database.specs.Tables.{Tables, tables_count, tables_records}
use Rattle.redodb_database.specs.Support.Tables.{AreTables}
use Rattle.redodb_database.specs.declared.redo.Redo.TheInside.{Inside}

abbrev pub tables_of : Inside → Tables
tables_of inside = record {
  cells = inside.records;
  rows = inside.rows;
  holders = inside.holders.items;
  grants = inside.grants.items;
  calls = inside.calls;
}

-- these are exactly the names that have a holder
abbrev pub AreHolderNames : List (Option ℕ) → List Bool → Type 0
AreHolderNames holders held = (n : ℕ) → IsSet held n ↔ IsSome (slice_index_or holders n None)

-- the fields are a database's, the memo has the out-of-date targets, and the set has exactly the
-- names that have a holder
pub record KeepsTables (inside : Inside) : Type 0 where
  pub tables : AreTables (tables_of inside)
  pub memo_for_each : memo_count inside.memo ≡ tables_count (tables_of inside)
  pub memo_right : IsRight inside.memo (tables_records (tables_of inside))
  pub held_for_each : length inside.held ≡ length inside.holders.items
  pub held_right : AreHolderNames inside.holders.items inside.held
