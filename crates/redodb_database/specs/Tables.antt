-- The value of the one-thread database.
use Rattle.std.specs.Prelude.{◌≡◌, ℕ, Bool, true, false, IsTrue, List, Option, None, length, slice_index, slice_index_or}
use Rattle.std.specs.List.{list_all}
use Rattle.redodb_model.specs.Command.{Command, IfChange, IfCreate, Ood, Targets, Sources}
use Rattle.redodb_model.specs.State.{Cell, Records, Locks, State}
use Rattle.redodb_records.specs.Rows.{TargetRows, room_of, with_rows}

-- a cell, the rows, a holder and a count of grants for each name; the calls so far
pub record Tables : Type 0 where
  pub cells : List Cell
  pub rows : List TargetRows
  pub holders : List (Option ℕ)
  pub grants : List ℕ
  pub calls : ℕ

abbrev pub tables_records : Tables → Records ℕ
tables_records tables = with_rows tables.cells tables.rows

abbrev pub locks_of : Tables → Locks ℕ
locks_of tables = record {
  holder = λ t. slice_index_or tables.holders t None;
  grants = λ t. slice_index tables.grants t;
}

-- the state of the tables
abbrev pub state_of : Tables → State ℕ
state_of tables = record { records = tables_records tables; locks = locks_of tables }

-- how many names there are
abbrev pub tables_count : Tables → ℕ
tables_count tables = length tables.cells

-- the calls that gave a reply
abbrev pub calls_of : Tables → ℕ
calls_of tables = tables.calls

-- the same state, count of names and calls
pub record IsAsBefore (old new : Tables) : Type 0 where
  pub state : state_of new ≡ state_of old
  pub count : tables_count new ≡ tables_count old
  pub calls : calls_of new ≡ calls_of old

-- no reserved memory is freed
abbrev pub KeepsRoom : Tables → Tables → Type 0
KeepsRoom old new = (t n : ℕ) → IsTrue (room_of old.rows t n) → IsTrue (room_of new.rows t n)

-- whether memory is reserved for all rows of the command
abbrev pub has_room_for : Tables → Command ℕ → Bool
has_room_for tables (IfChange t ns) = list_all (room_of tables.rows t) ns
has_room_for tables (IfCreate t ns) = list_all (room_of tables.rows t) ns
has_room_for tables command = true

-- whether the reply to a command lists names, if it isn't refused: that allocates
abbrev pub lists_names : Command ℕ → Bool
lists_names (IfChange t ns) = true
lists_names Ood = true
lists_names Targets = true
lists_names Sources = true
lists_names command = false
