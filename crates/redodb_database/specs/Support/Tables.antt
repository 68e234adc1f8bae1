-- The value of the one-thread database.
use Rattle.std.specs.Prelude.{◌≡◌, ℕ, ◌<◌, ◌^◌, ◌≤◌, Bool, true, false, Option, None, Some, is_some, slice_index, length}
use Rattle.redodb_model.specs.Command.{Command, Unlock}
use Rattle.redodb_model.specs.Reply.{Reply, Okay}
use Rattle.redodb_records.specs.Cells.{cell_at}
use Rattle.redodb_records.specs.Rows.{Slot, rows_count}
use Rattle.redodb_database.specs.Tables.{Tables, tables_count}

-- no name was built or granted as often as there were calls
pub record HasCallsLeft (tables : Tables) : Type 0 where
  pub builds : (n : ℕ) → (cell_at tables.cells n).builds < tables.calls
  pub grants : (n : ℕ) → slice_index tables.grants n < tables.calls
  pub calls : tables.calls < 2 ^ 32

-- as many names, with the same locks and calls
pub record KeepsLocks (old new : Tables) : Type 0 where
  pub count : tables_count new ≡ tables_count old
  pub holders : new.holders ≡ old.holders
  pub grants : new.grants ≡ old.grants
  pub calls : new.calls ≡ old.calls

-- the target that a command with this reply frees
abbrev pub freed_by : Command ℕ → Reply ℕ → Option ℕ
freed_by (Unlock t) Okay = Some t
freed_by command reply = None

-- whether the slot has a created row, or a change row
abbrev pub has_row : Bool → Slot → Bool
has_row true slot = slot.created
has_row false slot = is_some slot.change

-- each list has a place for each name, each name has a number of 32 bits, and no name was built or
-- granted more often than there were calls
pub record AreTables (tables : Tables) : Type 0 where
  pub rows_for_each : rows_count tables.rows ≡ tables_count tables
  pub holder_for_each : length tables.holders ≡ tables_count tables
  pub grants_for_each : length tables.grants ≡ tables_count tables
  pub few_names : tables_count tables < 2 ^ 32
  pub few_builds : (n : ℕ) → (cell_at tables.cells n).builds ≤ tables.calls
  pub few_grants : (n : ℕ) → slice_index tables.grants n ≤ tables.calls
