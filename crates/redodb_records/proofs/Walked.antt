-- The rows of a target, by the places of its slots.
use Rattle.std.proofs.Common.{◌≡◌, Bool, true, ℕ, ◌<◌, List, IsSome, length, get_or, refl, sym, ap, subst, ◌∙◌, map, arith}
use Rattle.std.proofs.lemmas.Bool.Decides.{nat_tests}
use Rattle.std.proofs.lemmas.List.{length-map, get_or-map}
use Rattle.std.proofs.lemmas.List.Elements.{Contains-get_or}
use Rattle.std.specs.List.{Contains}
use Rattle.redodb_model.proofs.Members.{contains_map}
use Rattle.redodb_model.specs.Names as names
use Rattle.redodb_records.specs.Rows.{Slot, TargetRows, slot_at, has_slot, target_at, rows_of, by_number}
use Rattle.redodb_records.specs.Target.{Ascending}
use Rattle.redodb_records.specs.Support.Target.{blank}
use Rattle.redodb_records.specs.Support.Kept.{has_change}
use Rattle.redodb_records.proofs.Inverses.{found_target, IsRowTest, slotted_row}
use Rattle.redodb_records.proofs.Slots.{slot_found, slot_there}
use Rattle.redodb_records.proofs.Told.{named_slot}

-- the slots that the code reads are the target's
pub slots_read : {targets now : List TargetRows} {target : TargetRows} {slots : List Slot} (t : ℕ)
    → targets ≡ now → t < length now → target ≡ get_or targets t target → slots ≡ target.slots
    → slots ≡ (target_at now t).slots
slots_read t is t_in at same =
    let own = found_target t is t_in at in
    same ∙ ap (λ (x : TargetRows). x.slots) own.1
    ∙ ap (λ (ts : List TargetRows). (target_at ts t).slots) is

-- the names of the slots
abbrev pub slot_names : List Slot → List ℕ
slot_names slots = map (λ slot. slot.name) slots

-- the name of the slot at this place
pub slot_name_at : (slots : List Slot) (k : ℕ) (slot : Slot) → k < length slots
    → slot ≡ get_or slots k slot → get_or (slot_names slots) k 0 ≡ slot.name
slot_name_at slots k slot in' is =
    get_or-map (λ (s : Slot). s.name) slots k slot 0 in' ∙ ap (λ (s : Slot). s.name) (sym is)

-- they are in order
pub names_ascend : (slots : List Slot) → Ascending slots
    → names.Ascending by_number (slot_names slots)
names_ascend slots ascending j k d before in' =
    let in_k : k < length slots = omega (arith, in', length-map slots (λ (s : Slot). s.name)) in
    let in_j : j < length slots = omega arith in
    let named : (i : ℕ) → i < length slots
    → get_or (slot_names slots) i d ≡ (get_or slots i (blank 0)).name =
    λ i in_i. get_or-map (λ (s : Slot). s.name) slots i (blank 0) d in_i in
    grind (arith, nat_tests, named j in_j, named k in_k, ascending j k (blank 0) before in_k)

-- the name of a slot at some place is below a bound on all of them
pub name_below_all : (slots : List Slot) (count k : ℕ) (slot : Slot) → Ascending slots
    → ((n : ℕ) → has_slot slots n ≡ true → n < count) → k < length slots
    → slot ≡ get_or slots k slot → slot.name < count
name_below_all slots count k slot ascending below in' is =
    below slot.name (subst (λ (s : Slot). has_slot slots s.name ≡ true) (sym is)
    (named_slot slots k slot ascending in'))

module _ (targets : List TargetRows) (t : ℕ) (slots : List Slot)
    (same : slots ≡ (target_at targets t).slots)
    (ascending : Ascending slots)
  where
    -- a slot has the rows on its name
    pub found_slot : (k : ℕ) (slot : Slot) → k < length slots → slot ≡ get_or slots k slot
        → slot_at (target_at targets t).slots slot.name ≡ slot
    found_slot k slot in' is =
        ap (λ ss. slot_at ss slot.name) (sym same)
        ∙ ap (λ (s : Slot). slot_at slots s.name) is
        ∙ (slot_found slots k slot ascending in').0 ∙ sym is

    pub row_of_slot : (k : ℕ) (slot : Slot) → k < length slots → slot ≡ get_or slots k slot
        → (rows_of targets).change t slot.name ≡ slot.change
    row_of_slot k slot in' is = ap (λ (s : Slot). s.change) (found_slot k slot in' is)

    -- a name with a row has a slot
    pub is_slotted : (test : Slot → Bool) → IsRowTest test → (n : ℕ)
        → test (slot_at (target_at targets t).slots n) ≡ true → has_slot slots n ≡ true
    is_slotted test no_blank n row =
        slotted_row test no_blank slots n (subst (λ ss. test (slot_at ss n) ≡ true) (sym same) row)

    -- and the row is in it
    slot_with : (test : Slot → Bool) → IsRowTest test → (n : ℕ)
        → test (slot_at (target_at targets t).slots n) ≡ true
        → (k : ℕ) × (k < length slots) × ((get_or slots k (blank 0)).name ≡ n)
        × (test (get_or slots k (blank 0)) ≡ true)
    slot_with test no_blank n row =
        let own : test (slot_at slots n) ≡ true =
        subst (λ ss. test (slot_at ss n) ≡ true) (sym same) row in
        let at = slot_there slots n (is_slotted test no_blank n row) in
        let named : (get_or slots at.0 (blank 0)).name ≡ n = at.2 (blank 0) in
        let found = (slot_found slots at.0 (blank 0) ascending at.1).0 in
        let stands = ap (slot_at slots) (sym named) ∙ found in
        (at.0, at.1, named, subst (λ (s : Slot). test s ≡ true) stands own)

    pub name_with : (test : Slot → Bool) → IsRowTest test → (n : ℕ)
        → test (slot_at (target_at targets t).slots n) ≡ true → Contains (slot_names slots) n
    name_with test no_blank n row =
        let at = slot_with test no_blank n row in
        let slot = get_or slots at.0 (blank 0) in
        subst (Contains (slot_names slots)) at.2
        (contains_map (λ (s : Slot). s.name) slots slot (Contains-get_or slots at.0 (blank 0) at.1))

    pub slot_of_row : (n : ℕ) → IsSome ((rows_of targets).change t n)
        → (k : ℕ) × (k < length slots) × ((get_or slots k (blank 0)).name ≡ n)
        × IsSome (get_or slots k (blank 0)).change
    slot_of_row n row = slot_with has_change (λ k. refl) n row

    pub name_of_row : (n : ℕ) → IsSome ((rows_of targets).change t n)
        → Contains (slot_names slots) n
    name_of_row n row = name_with has_change (λ k. refl) n row
