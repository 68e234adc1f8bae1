-- The parts that a database is made from.
use Rattle.std.specs.Prelude.{◌≡◌, ℕ, ◌<◌, ◌≤◌, ◌^◌, Bool, List, Option, Some, None, length, slice_index, slice_index_or}
use Rattle.redodb_model.specs.State.{Cell, State, Building}
use Rattle.redodb_records.specs.Cells.{cell_at}
use Rattle.redodb_records.specs.Rows.{TargetRows, rows_count, with_rows}
use Rattle.redodb_database.specs.Support.Kept.{AreHolderNames}
use Rattle.redodb_database.specs.declared.redo.loading.Loading.TheInside.{Inside}

-- a cell, the rows, a holder and a count of grants for each name, and a bound on all counts
pub record Parts : Type 0 where
  pub cells : List Cell
  pub rows : List TargetRows
  pub holders : List (Option ℕ)
  pub grants : List ℕ
  pub most : ℕ

-- how many names there are
abbrev pub parts_count : Parts → ℕ
parts_count parts = length parts.cells

-- the state that they make
abbrev pub state_made : Parts → State ℕ
state_made parts = record {
  records = with_rows parts.cells parts.rows;
  locks = record {
    holder = λ t. slice_index_or parts.holders t None;
    grants = λ t. slice_index parts.grants t;
  };
}

-- the same but for the rows
pub record AreSameButRows (old new : Parts) : Type 0 where
  pub cells : new.cells ≡ old.cells
  pub count : rows_count new.rows ≡ rows_count old.rows
  pub holders : new.holders ≡ old.holders
  pub grants : new.grants ≡ old.grants
  pub most : new.most ≡ old.most

-- each list has a place for each name, `held` is true exactly where there is a holder, no count is
-- above the bound, and builders hold
pub record AreParts (parts : Parts) (held : List Bool) : Type 0 where
  pub rows_for_each : rows_count parts.rows ≡ parts_count parts
  pub holder_for_each : length parts.holders ≡ parts_count parts
  pub grants_for_each : length parts.grants ≡ parts_count parts
  pub held_for_each : length held ≡ parts_count parts
  pub held_right : AreHolderNames parts.holders held
  pub few_names : parts_count parts < 2 ^ 32
  pub few_builds : (n : ℕ) → (cell_at parts.cells n).builds ≤ parts.most
  pub few_grants : (n : ℕ) → slice_index parts.grants n ≤ parts.most
  pub builders : (t s : ℕ) → (cell_at parts.cells t).state ≡ Building s
      → slice_index_or parts.holders t None ≡ Some s

abbrev pub parts_of : Inside → Parts
parts_of inside = record {
  cells = inside.records;
  rows = inside.rows;
  holders = inside.holders.items;
  grants = inside.grants.items;
  most = inside.most;
}

pub record KeepsParts (inside : Inside) : Type 0 where
  pub parts : AreParts (parts_of inside) inside.held
