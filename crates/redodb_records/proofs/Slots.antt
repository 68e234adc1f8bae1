-- The rows on a name, by the place of its slot.
use Rattle.std.proofs.Common.{◌≡◌, ℕ, zero, suc, ◌+◌, ◌<◌, true, false, cond, eqb, eq-eqb, ne_eqb, List, [], ◌∷◌, length, get_or, refl, sym, ap, subst, ◌∙◌, inl, inr, arith, Result, Ok, Err, IfOk, IfErr}
use Rattle.std.proofs.lemmas.Bool.{cases_lt, cases_eq, eqb-true, or_parts}
use Rattle.std.proofs.lemmas.List.{get_or_default}
use Rattle.std.proofs.lemmas.List.Folds.{list_any_none, list_any_at, Any-from_list_any}
use Rattle.std.specs.List.Sorted.{IsSearchInRange, IsBinarySearchResult}
use Rattle.std.specs.Ordering.{nat_cmp}
use Rattle.redodb_records.specs.Rows.{Slot, slot_at, has_slot}
use Rattle.redodb_records.specs.Target.{Ascending}
use Rattle.redodb_records.specs.Support.Target.{blank, name_at, IsSlotOf, IsGapFor}
use Rattle.redodb_records.proofs.Ordered.{searched_by}

-- whichever the default, the name is that of the place
pub name_read : (slots : List Slot) (i : ℕ) (d : Slot) → i < length slots
    → (get_or slots i d).name ≡ name_at slots i
name_read slots i d in' = ap (λ (slot : Slot). slot.name) (get_or_default slots i d (blank 0) in')

-- a slot of the list is the slot of its name
pub slot_found : (slots : List Slot) (i : ℕ) (d : Slot) → Ascending slots → i < length slots
    → (slot_at slots (get_or slots i d).name ≡ get_or slots i d)
    × (has_slot slots (get_or slots i d).name ≡ true)
slot_found slots i d ascending in' = (
  stands slots i ascending in',
  list_any_at (λ slot. eqb slot.name (get_or slots i d).name) slots i d in'
      (eq-eqb (get_or slots i d).name (get_or slots i d).name refl),
)
  where
    stands : (slots : List Slot) (i : ℕ) → Ascending slots → i < length slots
        → slot_at slots (get_or slots i d).name ≡ get_or slots i d
    stands [] i ascending in' = absurd (omega (arith, in'))
    stands (slot ∷ slots) zero ascending in' =
        ap (λ b. cond b slot (slot_at slots slot.name)) (eq-eqb slot.name slot.name refl)
    stands (slot ∷ slots) (suc i) ascending in' =
        let off : eqb slot.name (get_or slots i d).name ≡ false =
        ne_eqb slot.name (get_or slots i d).name
        (λ e. omega (arith, e, ascending 0 (suc i) d (omega arith) in')) in
        ap (λ b. cond b slot (slot_at slots (get_or slots i d).name)) off
        ∙ stands slots i (λ j k e before in_k. ascending (suc j) (suc k) e (omega (arith, before))
        (omega (arith, in_k))) (omega (arith, in'))

-- a name with a slot has it at some place
pub slot_there : (slots : List Slot) (k : ℕ) → has_slot slots k ≡ true
    → (i : ℕ) × (i < length slots) × ((d : Slot) → (get_or slots i d).name ≡ k)
slot_there slots k there =
    let at = Any-from_list_any (λ slot. eqb slot.name k) slots there in (
      at.0,
      at.2,
      λ d. ap (λ (slot : Slot). slot.name) (get_or_default slots at.0 d at.1 at.2 ∙ at.3)
          ∙ eqb-true at.1.name k at.4,
    )

-- the place of a name's slot gives the rows on it
pub slot_stands : (slots : List Slot) (n i : ℕ) (d : Slot) → Ascending slots → IsSlotOf slots n i
    → (get_or slots i d ≡ slot_at slots n) × (has_slot slots n ≡ true)
slot_stands slots n i d ascending at =
    let found = slot_found slots i d ascending at.within in
    let named : (get_or slots i d).name ≡ n = name_read slots i d at.within ∙ at.named in
    (sym found.0 ∙ ap (slot_at slots) named, sym (ap (has_slot slots) named) ∙ found.1)

-- a name with a gap has no slot
pub none_in_gap : (slots : List Slot) (n i : ℕ) → IsGapFor slots n i → has_slot slots n ≡ false
none_in_gap slots n i gap =
    list_any_none (λ slot. eqb slot.name n) slots
    (λ k d in'. ne_eqb (get_or slots k d).name n (λ e. elim (cases_lt k i) [
      | inl below ↦ omega (arith, name_read slots k d in', gap.before k below, e)
      | inr from ↦ omega (arith, name_read slots k d in', gap.after k from in', e)
    ]))

-- no row is on a name without a slot
pub nothing_stands : (slots : List Slot) (n : ℕ) → has_slot slots n ≡ false
    → slot_at slots n ≡ blank n
nothing_stands [] n none = refl
nothing_stands (slot ∷ slots) n none =
    let both = or_parts (eqb slot.name n) (has_slot slots n) none in
    ap (λ b. cond b slot (slot_at slots n)) both.0 ∙ nothing_stands slots n both.1

-- the slot of a name has that name
pub slot_named : (slots : List Slot) (n : ℕ) → (slot_at slots n).name ≡ n
slot_named [] n = refl
slot_named (slot ∷ slots) n = elim (cases_eq slot.name n) [
  | inl e ↦ ap (λ b. (cond b slot (slot_at slots n)).name) (eq-eqb slot.name n e) ∙ e
  | inr off ↦
      ap (λ b. (cond b slot (slot_at slots n)).name) (ne_eqb slot.name n off) ∙ slot_named slots n
]

-- a binary search by name ends at the name's slot, or at the gap for it
pub searched : (slots : List Slot) → Ascending slots → (n : ℕ) (r : Result ℕ ℕ)
    → IsSearchInRange r (length slots)
    → IsBinarySearchResult (λ slot. nat_cmp slot.name n) slots r
    → record { found : IfOk r (IsSlotOf slots n); absent : IfErr r (IsGapFor slots n) }
searched slots ascending n (Ok i) in_range equal =
    let found = searched_by (λ (slot : Slot). slot.name) slots ascending n (Ok i) in_range equal in
    record { found = record { within = found.0; named = found.1 (blank 0) }; absent = tt }
searched slots ascending n (Err i) in_range parted =
    let gap = searched_by (λ (slot : Slot). slot.name) slots ascending n (Err i) in_range parted in
    record {
      found = tt;
      absent = record {
        within = gap.0;
        before = λ k. gap.1 k (blank 0);
        after = λ k. gap.2 k (blank 0);
      };
    }

-- a name after that of the last slot would go behind all
pub gap_behind : (slots : List Slot) (n last : ℕ) → Ascending slots → last + 1 ≡ length slots
    → name_at slots last < n → IsGapFor slots n (length slots)
gap_behind slots n last ascending is less = record {
  within = omega arith;
  before = λ k below. elim (cases_lt k last) [
    | inl earlier ↦ omega (arith, less, ascending k last (blank 0) earlier (omega (arith, is)))
    | inr from ↦ subst (λ i. name_at slots i < n) (omega (arith, is, below, from)) less
  ];
  after = λ k from below. absurd (omega (arith, from, below));
}
