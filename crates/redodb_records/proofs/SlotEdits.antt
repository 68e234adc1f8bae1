-- Slots with one replaced, and with one more.
use Rattle.std.proofs.Common.{◌≡◌, ℕ, zero, suc, ◌<◌, ◌||◌, Bool, true, false, cond, eqb, eq-eqb, ne_eqb, List, [], ◌∷◌, length, set, refl, sym, ap, ◌∙◌, inl, inr, arith}
use Rattle.std.proofs.lemmas.Bool.{cases_eq, or_parts}
use Rattle.std.proofs.lemmas.List.Sorted.{IsPermutation-insert, list_any-IsPermutation}
use Rattle.std.specs.List.{insert}
use Rattle.redodb_records.specs.Rows.{Slot, slot_at, has_slot}
use Rattle.redodb_records.specs.Target.{Ascending}
use Rattle.redodb_records.specs.Support.Target.{blank, IsSlotOf, IsGapFor}
use Rattle.redodb_records.proofs.Inserting.{all_pairs_insert}
use Rattle.redodb_records.proofs.Ordered.{set_in_order}
use Rattle.redodb_records.proofs.Slots.{name_read, nothing_stands}

same_twice : {X : Type 0} (b : Bool) (x y z : X) → cond b x y ≡ cond b x (cond b z y)
same_twice true x y z = refl
same_twice false x y z = refl

swapped : {X : Type 0} (m n k : ℕ) (x y z : X) → (m ≡ n → ⊥)
    → cond (eqb m k) x (cond (eqb n k) y z) ≡ cond (eqb n k) y (cond (eqb m k) x z)
swapped m n k x y z off = elim (cases_eq n k) [
  | inl e ↦ let f : eqb m k ≡ false = ne_eqb m k (λ h. off (h ∙ sym e)) in rw f refl
  | inr d ↦ let f : eqb n k ≡ false = ne_eqb n k d in rw f refl
]

-- a slot that replaces another of its name is that name's slot, and nothing else changes
pub slot_at-set : (slots : List Slot) (n i : ℕ) (new : Slot) → Ascending slots → IsSlotOf slots n i
    → new.name ≡ n → (k : ℕ) → slot_at (set slots i new) k ≡ cond (eqb n k) new (slot_at slots k)
slot_at-set [] n i new ascending at same k = absurd (omega (arith, at.within))
slot_at-set (slot ∷ slots) n zero new ascending at same k =
    ap (λ m. cond (eqb m k) new (slot_at slots k)) same
    ∙ same_twice (eqb n k) new (slot_at slots k) slot
    ∙ ap (λ m. cond (eqb n k) new (cond (eqb m k) slot (slot_at slots k))) (sym at.named)
slot_at-set (slot ∷ slots) n (suc i) new ascending at same k =
    let in' : i < length slots = omega (arith, at.within) in
    let off : slot.name ≡ n → ⊥ =
    λ e. omega (arith, e, at.named, ascending 0 (suc i) (blank 0) (omega arith) at.within) in
    ap (cond (eqb slot.name k) slot) (slot_at-set slots n i new
    (λ j m d before in_m. ascending (suc j) (suc m) d (omega (arith, before)) (omega (arith, in_m)))
    (record { within = in'; named = at.named }) same k)
    ∙ swapped slot.name n k slot new (slot_at slots k) off

-- the same names have slots
pub has_slot-set : (slots : List Slot) (n i : ℕ) (new : Slot) → IsSlotOf slots n i → new.name ≡ n
    → (k : ℕ) → has_slot (set slots i new) k ≡ has_slot slots k
has_slot-set [] n i new at same k = refl
has_slot-set (slot ∷ slots) n zero new at same k =
    ap (λ m. eqb m k || has_slot slots k) (same ∙ sym at.named)
has_slot-set (slot ∷ slots) n (suc i) new at same k =
    ap (λ b. eqb slot.name k || b) (has_slot-set slots n i new
    (record { within = omega (arith, at.within); named = at.named }) same k)

pub set_ascends : (slots : List Slot) (n i : ℕ) (new : Slot) → Ascending slots → IsSlotOf slots n i
    → new.name ≡ n → Ascending (set slots i new)
set_ascends slots n i new ascending at same =
    set_in_order (λ (slot : Slot). slot.name) slots ascending i new at.within
    (name_read slots i new at.within ∙ at.named ∙ sym same)

blank_stands : (slots : List Slot) (n : ℕ) → has_slot slots n ≡ false → (k : ℕ)
    → slot_at (blank n ∷ slots) k ≡ slot_at slots k
blank_stands slots n none k = elim (cases_eq n k) [
  | inl e ↦ ap (λ b. cond b (blank n) (slot_at slots k)) (eq-eqb n k e)
      ∙ sym (nothing_stands slots n none) ∙ ap (slot_at slots) e
  | inr off ↦ ap (λ b. cond b (blank n) (slot_at slots k)) (ne_eqb n k off)
]

-- one more blank slot changes no row
pub slot_at-insert : (slots : List Slot) (n i : ℕ) → has_slot slots n ≡ false → (k : ℕ)
    → slot_at (insert slots i (blank n)) k ≡ slot_at slots k
slot_at-insert slots n zero none k = blank_stands slots n none k
slot_at-insert [] n (suc i) none k = blank_stands [] n none k
slot_at-insert (slot ∷ slots) n (suc i) none k =
    ap (cond (eqb slot.name k) slot)
    (slot_at-insert slots n i (or_parts (eqb slot.name n) (has_slot slots n) none).1 k)

flipped : (m n : ℕ) → eqb m n ≡ eqb n m
flipped m n = elim (cases_eq m n) [
  | inl e ↦ eq-eqb m n e ∙ sym (eq-eqb n m (sym e))
  | inr off ↦ ne_eqb m n off ∙ sym (ne_eqb n m (λ e. off (sym e)))
]

-- its name has a slot then, and so have those that had one
pub has_slot-insert : (slots : List Slot) (n i k : ℕ)
    → has_slot (insert slots i (blank n)) k ≡ (eqb k n || has_slot slots k)
has_slot-insert slots n i k =
    sym (list_any-IsPermutation (λ slot. eqb slot.name k) (blank n ∷ slots)
    (insert slots i (blank n)) (IsPermutation-insert slots i (blank n)))
    ∙ ap (λ b. b || has_slot slots k) (flipped n k)

pub insert_ascends : (slots : List Slot) (n i : ℕ) (new : Slot) → Ascending slots
    → IsGapFor slots n i → new.name ≡ n → Ascending (insert slots i new)
insert_ascends slots n i new ascending gap same =
    all_pairs_insert (λ one other. one.name < other.name) slots i new gap.within ascending
    (λ k d below. omega (
      arith,
      same,
      name_read slots k d (omega (arith, below, gap.within)),
      gap.before k below,
    ))
    (λ k d le in'. omega (arith, same, name_read slots k d in', gap.after k le in'))
