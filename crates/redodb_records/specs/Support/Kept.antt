-- The invariant of the rows: their inverses, and how many targets have a slot for each name.
use Rattle.std.specs.Prelude.{◌≡◌, ◌≢◌, ◌↔◌, ◌≤◌, ◌+◌, ℕ, Bool, List, [], IsTrue, cond, length, Contains, ◌<◌, ◌^◌, is_some, slice_index_or, slice_set, count_by}
use Rattle.redodb_records.specs.Numbers.{NumberList}
use Rattle.redodb_records.specs.Rows.{Slot, TargetRows, slot_at, has_slot, target_at, room_of}
use Rattle.redodb_records.specs.Support.Target.{cleared}

-- the slot has a change row
abbrev pub has_change : Slot → Bool
has_change slot = is_some slot.change

-- the slot has a created row
abbrev pub has_created : Slot → Bool
has_created slot = slot.created

-- whether the target's slot for n passes
abbrev pub passes_on : (Slot → Bool) → ℕ → TargetRows → Bool
passes_on test n target = test (slot_at target.slots n)

-- whether it has a slot for n
abbrev pub sits_on : ℕ → TargetRows → Bool
sits_on n target = has_slot target.slots n

-- how many targets have a slot for n
abbrev pub slots_on : List TargetRows → ℕ → ℕ
slots_on targets n = count_by (sits_on n) targets

-- the same targets, but t without rows
abbrev pub cleared_at : List TargetRows → ℕ → List TargetRows
cleared_at targets t = slice_set targets t (cleared (target_at targets t))

-- no numbers and no memory for any
abbrev pub no_numbers : NumberList
no_numbers = record { items = []; room = 0 }

-- the list of n
abbrev pub numbers_at : List NumberList → ℕ → NumberList
numbers_at lists n = slice_index_or lists n no_numbers

-- the targets whose slot for n passes, and memory for each that has a slot for n
pub record IsInverseOn (test : Slot → Bool) (targets : List TargetRows) (n : ℕ)
    (list : NumberList) : Type 0 where
  pub listed : (t : ℕ) → Contains list.items t ↔ IsTrue (passes_on test n (target_at targets t))
  pub counted : length list.items ≡ count_by (passes_on test n) targets
  pub room : slots_on targets n ≤ list.room

-- the same for each name
pub record IsInverse (test : Slot → Bool) (targets : List TargetRows)
    (lists : List NumberList) : Type 0 where
  pub sized : length lists ≡ length targets
  pub each : (n : ℕ) → n < length targets → IsInverseOn test targets n (numbers_at lists n)

-- for each name, how many targets have a slot for it
pub record CountsSlots (targets : List TargetRows) (slotted : List ℕ) : Type 0 where
  pub sized : length slotted ≡ length targets
  pub each : (n : ℕ) → n < length targets → slice_index_or slotted n 0 ≡ slots_on targets n

-- rows are on names alone, and each inverse and count is right
pub record IsKept (targets : List TargetRows) (needed awaited : List NumberList)
    (slotted : List ℕ) : Type 0 where
  pub small : length targets < 2 ^ 32
  pub below : (t n : ℕ) → IsTrue (room_of targets t n) → n < length targets
  pub needs : IsInverse has_change targets needed
  pub awaits : IsInverse has_created targets awaited
  pub counts : CountsSlots targets slotted

-- no list has a number
abbrev pub AreEmpty : List NumberList → Type 0
AreEmpty lists = (n : ℕ) → (numbers_at lists n).items ≡ []

-- the list of a name before and after a call that adds or removes t: `was` and `is` say whether t
-- is in it, and every other target stays
pub record Follows (t : ℕ) (was is : Bool) (old new : NumberList) : Type 0 where
  pub others : (u : ℕ) → u ≢ t → Contains new.items u ↔ Contains old.items u
  pub own : Contains new.items t ↔ IsTrue is
  pub counted : length new.items + cond was 1 0 ≡ length old.items + cond is 1 0
  pub room : old.room ≤ new.room

-- the same for the list of n, if the other lists stay
pub record FollowsOn (n t : ℕ) (was is : Bool) (old new : List NumberList) : Type 0 where
  pub sized : length new ≡ length old
  pub others : (k : ℕ) → k ≢ n → numbers_at new k ≡ numbers_at old k
  pub own : Follows t was is (numbers_at old n) (numbers_at new n)
