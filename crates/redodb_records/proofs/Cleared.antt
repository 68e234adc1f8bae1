-- Slots without their rows.
use Rattle.std.proofs.Common.{◌≡◌, ℕ, ◌<◌, cond, ◌||◌, eqb, eq-eqb, ne_eqb, List, [], ◌∷◌, length, get_or, refl, ap, ◌∙◌, inl, inr, arith}
use Rattle.std.proofs.lemmas.Bool.{cases_eq}
use Rattle.std.proofs.lemmas.List.{length-map, get_or-map}
use Rattle.redodb_records.specs.Rows.{Slot, slot_at, has_slot}
use Rattle.redodb_records.specs.Target.{Ascending}
use Rattle.redodb_records.specs.Support.Target.{blank, blanked}

-- no name has a row
pub slot_at-blanked : (slots : List Slot) (k : ℕ) → slot_at (blanked slots) k ≡ blank k
slot_at-blanked [] k = refl
slot_at-blanked (slot ∷ slots) k = elim (cases_eq slot.name k) [
  | inl e ↦ ap (λ b. cond b (blank slot.name) (slot_at (blanked slots) k)) (eq-eqb slot.name k e)
      ∙ ap blank e
  | inr off ↦
      ap (λ b. cond b (blank slot.name) (slot_at (blanked slots) k)) (ne_eqb slot.name k off)
      ∙ slot_at-blanked slots k
]

-- the same names have slots
pub has_slot-blanked : (slots : List Slot) (k : ℕ) → has_slot (blanked slots) k ≡ has_slot slots k
has_slot-blanked [] k = refl
has_slot-blanked (slot ∷ slots) k =
    ap (λ b. eqb slot.name k || b) (has_slot-blanked slots k)

pub blanked_ascends : (slots : List Slot) → Ascending slots → Ascending (blanked slots)
blanked_ascends slots ascending j k d before in' =
    let in_k : k < length slots = omega (arith, in', length-map slots (λ slot. blank slot.name)) in
    let name = λ (slot : Slot). slot.name in
    let named : (i : ℕ) → i < length slots
    → (get_or (blanked slots) i d).name ≡ (get_or slots i d).name =
    λ i in_i. ap name (get_or-map (λ slot. blank slot.name) slots i d d in_i) in
    omega (arith, named j (omega arith), named k in_k, ascending j k d before in_k)
