-- Slots without rows, and the places of the slots of a target.
use Rattle.std.specs.Prelude.{◌≡◌, ℕ, ◌<◌, ◌≤◌, false, List, None, length, map, slice_index_or}
use Rattle.redodb_records.specs.Rows.{Slot, TargetRows}

-- reserved memory for rows on the name, and no row
abbrev pub blank : ℕ → Slot
blank n = record { name = n; change = None; created = false }

-- the same slots, without rows
abbrev pub blanked : List Slot → List Slot
blanked slots = map (λ slot. blank slot.name) slots

-- the same memory reserved, and no row
abbrev pub cleared : TargetRows → TargetRows
cleared target = record { slots = blanked target.slots; always = false }

abbrev pub name_at : List Slot → ℕ → ℕ
name_at slots i = (slice_index_or slots i (blank 0)).name

-- the slot at place i is that of the name
pub record IsSlotOf (slots : List Slot) (n i : ℕ) : Type 0 where
  pub within : i < length slots
  pub named : name_at slots i ≡ n

-- a slot of the name would go at place i: smaller names before it, and greater names from it on
pub record IsGapFor (slots : List Slot) (n i : ℕ) : Type 0 where
  pub within : i ≤ length slots
  pub before : (k : ℕ) → k < i → name_at slots k < n
  pub after : (k : ℕ) → i ≤ k → k < length slots → n < name_at slots k
