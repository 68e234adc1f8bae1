-- The slots of a target, if one of them is changed.
use Rattle.std.proofs.Common.{◌≡◌, ℕ, cond, eqb, ne_eqb, List, set, sym, ap, ◌∙◌, inl, inr}
use Rattle.std.proofs.lemmas.Bool.{cases_eq}
use Rattle.redodb_records.specs.Rows.{Slot, slot_at}
use Rattle.redodb_records.specs.Target.{Ascending}
use Rattle.redodb_records.specs.Support.Target.{IsSlotOf}
use Rattle.redodb_records.proofs.Slots.{slot_named}
use Rattle.redodb_records.proofs.SlotEdits.{slot_at-set}

module _ (f : Slot → Slot) (keeps : (slot : Slot) → (f slot).name ≡ slot.name) (slots : List Slot)
    (n i : ℕ) (new : Slot) (at : IsSlotOf slots n i) (is_new : new ≡ f (slot_at slots n)) where
  pub new_named : new.name ≡ n
  new_named =
      ap (λ (slot : Slot). slot.name) is_new ∙ (keeps (slot_at slots n) ∙ slot_named slots n)

  -- f changes the slot of the name, and no other
  pub rows_written : Ascending slots → (k : ℕ)
      → slot_at (set slots i new) k ≡ cond (eqb n k) (f (slot_at slots k)) (slot_at slots k)
  rows_written ascending k =
      slot_at-set slots n i new ascending at new_named k ∙ elim (cases_eq n k) [
        | inl e ↦ ap (λ (slot : Slot). cond (eqb n k) slot (slot_at slots k))
            (is_new ∙ ap (λ m. f (slot_at slots m)) e)
        | inr off ↦ ap (λ b. cond b new (slot_at slots k)) (ne_eqb n k off)
            ∙ sym (ap (λ b. cond b (f (slot_at slots k)) (slot_at slots k)) (ne_eqb n k off))
      ]
