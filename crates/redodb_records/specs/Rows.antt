-- The rows of the targets, and the memory that is reserved for more.
use Rattle.std.specs.Prelude.{ℕ, Bool, true, false, List, [], ◌∷◌, Option, Some, None, IsSome, IsTrue, ◌==◌, if◌then◌else◌, slice_index_or, length}
use Rattle.std.specs.List.{list_any}
use Rattle.redodb_model.specs.Names.{put}
use Rattle.redodb_model.specs.State.{Cell, Mark, Records, Rows}
pub use Rattle.redodb_model.specs.Names.{by_number}
use Rattle.redodb_records.specs.Cells.{cell_at}

-- reserved memory for a target's rows on one name, and the rows that are there
pub record Slot : Type 0 where
  pub name : ℕ
  pub change : Option Mark
  pub created : Bool

-- a target's slots, and whether it has an always row
pub record TargetRows : Type 0 where
  pub slots : List Slot
  pub always : Bool

-- a target without slots and without rows
abbrev pub bare : TargetRows
bare = record { slots = []; always = false }

-- the slot of the name; one without rows if the name has none
abbrev pub slot_at : List Slot → ℕ → Slot
slot_at [] n = record { name = n; change = None; created = false }
slot_at (slot ∷ slots) n = if slot.name == n then slot else slot_at slots n

abbrev pub has_slot : List Slot → ℕ → Bool
has_slot slots n = list_any (λ slot. slot.name == n) slots

abbrev pub target_at : List TargetRows → ℕ → TargetRows
target_at targets t = slice_index_or targets t bare

-- how many names there are
abbrev pub rows_count : List TargetRows → ℕ
rows_count targets = length targets

-- the rows of the model
abbrev pub rows_of : List TargetRows → Rows ℕ
rows_of targets = record {
  change = λ t n. (slot_at (target_at targets t).slots n).change;
  created = λ t n. (slot_at (target_at targets t).slots n).created;
  always = λ t. (target_at targets t).always;
}

-- whether memory is reserved for t's rows on n
abbrev pub room_of : List TargetRows → ℕ → ℕ → Bool
room_of targets t n = has_slot (target_at targets t).slots n

-- the rows with a change row of t on n, which replaces an earlier one
abbrev pub with_change : Rows ℕ → ℕ → ℕ → Mark → Rows ℕ
with_change rows t n mark = record rows
    { change = put by_number t (put by_number n (Some mark) (rows.change t)) rows.change }

-- the rows with a created row of t on n
abbrev pub with_created : Rows ℕ → ℕ → ℕ → Rows ℕ
with_created rows t n =
    record rows { created = put by_number t (put by_number n true (rows.created t)) rows.created }

-- the rows with an always row of t
abbrev pub with_always : Rows ℕ → ℕ → Rows ℕ
with_always rows t = record rows { always = put by_number t true rows.always }

-- the rows without those of t
abbrev pub without_rows : Rows ℕ → ℕ → Rows ℕ
without_rows rows t = record {
  change = put by_number t (λ n. None) rows.change;
  created = put by_number t (λ n. false) rows.created;
  always = put by_number t false rows.always;
}

abbrev pub HasChangeRowOn : Rows ℕ → ℕ → ℕ → Type 0
HasChangeRowOn rows t n = IsSome (rows.change t n)

abbrev pub HasCreatedRowOn : Rows ℕ → ℕ → ℕ → Type 0
HasCreatedRowOn rows t n = IsTrue (rows.created t n)

-- what is known of each name, with these rows
abbrev pub with_rows : List Cell → List TargetRows → Records ℕ
with_rows cells targets = record { cell = cell_at cells; rows = rows_of targets }
