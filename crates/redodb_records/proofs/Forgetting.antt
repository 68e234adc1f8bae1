-- The invariant of the rows, if one target is replaced by another.
use Rattle.std.proofs.Common.{◌≡◌, ◌↔◌, ℕ, ◌<◌, ◌≤◌, ◌+◌, Bool, true, false, ◌||◌, List, [], ◌∷◌, length, get_or, set, drop, refl, sym, ap, ◌∙◌, subst, inl, inr, arith, IsTrue, eqb, ne_eqb, eq-eqb, ◌^◌, suc}
use Rattle.std.proofs.lemmas.Bool.{cases_eq, or_right, false≢true}
use Rattle.std.proofs.lemmas.List.{length-set, get_or_default, drop_all, drop_more, get_or-drop, length-drop}
use Rattle.std.specs.List.{Contains, AllPairs}
use Rattle.redodb_records.specs.Rows.{Slot, TargetRows, slot_at, has_slot, target_at, bare, room_of}
use Rattle.redodb_records.specs.Numbers.{NumberList}
use Rattle.redodb_records.specs.Support.Kept.{has_change, has_created, passes_on, sits_on, cleared_at, numbers_at, IsInverse, IsKept, Follows, FollowsOn}
use Rattle.redodb_records.specs.Support.Target.{cleared}
use Rattle.redodb_records.proofs.Inverses.{flag, IsRowTest, found_target, target_same, target_other, follows_same, inverse_on_set, inverse_stays, counts_stay, no_slot_no_row}
use Rattle.redodb_records.proofs.Cleared.{slot_at-blanked, has_slot-blanked}
use Rattle.redodb_records.proofs.Slots.{slot_found}

pub below_set : (targets : List TargetRows) (t : ℕ) (new : TargetRows) → t < length targets
    → ((u n : ℕ) → IsTrue (room_of targets u n) → n < length targets)
    → ((n : ℕ) → sits_on n new ≡ true → n < length targets)
    → (u n : ℕ) → IsTrue (room_of (set targets t new) u n) → n < length (set targets t new)
below_set targets t new below old own u n sits =
    subst (λ m. n < m) (sym (length-set targets t new)) (elim (cases_eq u t) [
      | inl here ↦
          let e : target_at (set targets t new) u ≡ new =
          ap (λ k. target_at (set targets t new) k) here ∙ target_same targets t new below in
          own n (subst (λ x. sits_on n x ≡ true) e sits)
      | inr off ↦ old u n (subst (λ x. sits_on n x ≡ true) (target_other targets t u new off) sits)
    ])

-- a target with the same rows and slots
pub kept_stays : (targets : List TargetRows) (t : ℕ) (new : TargetRows)
    (needed awaited : List NumberList) (slotted : List ℕ) → t < length targets
    → ((k : ℕ) → slot_at new.slots k ≡ slot_at (target_at targets t).slots k)
    → ((k : ℕ) → sits_on k new ≡ sits_on k (target_at targets t))
    → IsKept targets needed awaited slotted → IsKept (set targets t new) needed awaited slotted
kept_stays targets t new needed awaited slotted below rows sits h = record {
  small = subst (λ m. m < 2 ^ 32) (sym (length-set targets t new)) h.small;
  below = below_set targets t new below h.below (λ n s. h.below t n (sym (sits n) ∙ s));
  needs = inverse_stays has_change targets t new needed below
      (λ k. ap has_change (rows k)) sits h.needs;
  awaits = inverse_stays has_created targets t new awaited below
      (λ k. ap has_created (rows k)) sits h.awaits;
  counts = counts_stay targets t new slotted below sits h.counts;
}

none_named : (slots : List Slot) (n : ℕ)
    → ((k : ℕ) (d : Slot) → k < length slots → (get_or slots k d).name ≡ n → ⊥)
    → has_slot slots n ≡ false
none_named [] n f = refl
none_named (slot ∷ slots) n f =
    let e : eqb slot.name n ≡ false = ne_eqb slot.name n (f 0 slot (omega arith)) in
    rw e (none_named slots n (λ k d l. f (suc k) d (omega (arith, l))))

-- no later slot has the name
no_later : (slots : List Slot) (i : ℕ) (slot : Slot) → AllPairs (λ x y. x.name < y.name) slots
    → i < length slots → slot ≡ get_or slots i slot
    → has_slot (drop (i + 1) slots) slot.name ≡ false
no_later slots i slot rise in' at = none_named (drop (i + 1) slots) slot.name (λ k d l e.
    let inside : i + 1 + k < length slots = omega (arith, l, length-drop (i + 1) slots) in
    let low : (get_or slots i d).name ≡ slot.name =
    ap (λ (s : Slot). s.name) (sym (at ∙ get_or_default slots i slot d in')) in
    let high : (get_or slots (i + 1 + k) d).name ≡ slot.name =
    ap (λ (s : Slot). s.name) (sym (get_or-drop (i + 1) slots k d)) ∙ e in
    omega (arith, low, high, rise i (i + 1 + k) d (omega arith) inside))

abbrev pub slots_at : List TargetRows → ℕ → List Slot
slots_at targets t = (target_at targets t).slots

-- t was taken out of the lists of its slots' names, but for the slots in `rest`
pub record IsTakenOut (test : Slot → Bool) (targets : List TargetRows) (t : ℕ) (rest : List Slot)
    (old new : List NumberList) : Type 0 where
  pub sized : length new ≡ length old
  pub out : (n : ℕ) → n < length old → has_slot rest n ≡ false
      → Follows t (passes_on test n (target_at targets t)) false (numbers_at old n)
      (numbers_at new n)
  pub later : (n : ℕ) → has_slot rest n ≡ true → numbers_at new n ≡ numbers_at old n

module _ {targets : List TargetRows} {old : List NumberList} (test : Slot → Bool)
    (blank : IsRowTest test) (t : ℕ) (inverse : IsInverse test targets old)
  where
    -- before the first slot
    pub taken_begins : IsTakenOut test targets t (slots_at targets t) old old
    taken_begins = record {
      sized = refl;
      out = λ n in' none.
          let same = follows_same test targets t n (numbers_at old n) (numbers_at old n)
          (inverse.each n (omega (arith, in', inverse.sized))) refl (omega arith) in
          subst (λ b. Follows t (passes_on test n (target_at targets t)) b (numbers_at old n)
          (numbers_at old n))
          (no_slot_no_row test blank (slots_at targets t) n none) same;
      later = λ n there. refl;
    }

    -- after the last, the inverse is that of the rows without t's
    pub all_taken : {new : List NumberList} → t < length targets
        → IsTakenOut test targets t [] old new → IsInverse test (cleared_at targets t) new
    all_taken {new} below taken =
        let is : TargetRows = cleared (target_at targets t) in
        let count : length (set targets t is) ≡ length targets = length-set targets t is in
        record {
          sized = taken.sized ∙ (inverse.sized ∙ sym count);
          each = λ n in'.
              let n_in : n < length targets = subst (λ m. n < m) count in' in
              let none : passes_on test n is ≡ false =
              ap test (slot_at-blanked (slots_at targets t) n) ∙ blank n in
              let out = taken.out n (omega (arith, n_in, inverse.sized)) refl in
              let sits = has_slot-blanked (slots_at targets t) n in
              inverse_on_set test targets t is n (numbers_at old n) (numbers_at new n) below
              (inverse.each n n_in)
              (subst (λ b. Follows t (passes_on test n (target_at targets t)) b (numbers_at old n)
              (numbers_at new n)) (sym none) out)
              (omega (arith, (inverse.each n n_in).room, out.room, ap flag sits));
        }

-- the i-th slot of t, whose name is n; and whether it passes
pub record AtSlot (test : Slot → Bool) (targets : List TargetRows) (t i : ℕ) (n : ℕ)
    (was : Bool) : Type 0 where
  pub slot : Slot
  pub begins : drop i (slots_at targets t) ≡ slot ∷ drop (i + 1) (slots_at targets t)
  pub name : slot.name ≡ n
  pub row : passes_on test n (target_at targets t) ≡ was
  pub sits : sits_on n (target_at targets t) ≡ true
  pub last : has_slot (drop (i + 1) (slots_at targets t)) n ≡ false

at_own : (test : Slot → Bool) (targets : List TargetRows) (t i : ℕ) (slot : Slot)
    → AllPairs (λ x y. x.name < y.name) (slots_at targets t) → i < length (slots_at targets t)
    → slot ≡ get_or (slots_at targets t) i slot
    → AtSlot test targets t i slot.name (test slot)
at_own test targets t i slot rise in' found =
    let slots : List Slot = slots_at targets t in
    let at = slot_found slots i slot rise in' in
    record {
      slot = slot;
      begins = drop_more slots i slot in' ∙ ap (λ s. s ∷ drop (i + 1) slots) (sym found);
      name = refl;
      row = ap test (ap (λ (s : Slot). slot_at slots s.name) found ∙ (at.0 ∙ sym found));
      sits = ap (λ (s : Slot). has_slot slots s.name) found ∙ at.1;
      last = no_later slots i slot rise in' found;
    }

-- in the terms of the code, the slots that are read are those of t
read_slots : (targets : List TargetRows) (t : ℕ) (target : TargetRows) (slots : List Slot)
    → t < length targets → target ≡ get_or targets t target → slots ≡ target.slots
    → slots ≡ slots_at targets t
read_slots targets t target slots below at is =
    is ∙ ap (λ (x : TargetRows). x.slots) (at ∙ get_or_default targets t target bare below)

pub all_slots : {target : TargetRows} {slots : List Slot} (targets : List TargetRows) (t i : ℕ)
    → t < length targets → target ≡ get_or targets t target → slots ≡ target.slots
    → length slots ≤ i → drop i (slots_at targets t) ≡ []
all_slots {target} {slots} targets t i below at is end =
    ap (drop i) (sym (read_slots targets t target slots below at is)) ∙ drop_all i slots end

pub at_slot : {target : TargetRows} {slots : List Slot} {slot : Slot} {n : ℕ} {was : Bool}
    (test : Slot → Bool) (targets : List TargetRows) (t i : ℕ) → t < length targets
    → target ≡ get_or targets t target → slots ≡ target.slots
    → AllPairs (λ x y. x.name < y.name) slots → i < length slots → slot ≡ get_or slots i slot
    → n ≡ slot.name → was ≡ test slot → AtSlot test targets t i n was
at_slot {target} {slots} {slot} {n} {was} test targets t i below at is rise in' found name row =
    let e = read_slots targets t target slots below at is in
    subst (λ m. AtSlot test targets t i m was) (sym name)
    (subst (AtSlot test targets t i slot.name) (sym row) (at_own test targets t i slot
    (subst (AllPairs (λ (x y : Slot). x.name < y.name)) e rise)
    (subst (λ ss. i < length ss) e in')
    (subst (λ ss. slot ≡ get_or ss i slot) e found)))

module _ {test : Slot → Bool} {targets : List TargetRows} {t i n : ℕ} {was : Bool}
    (at : AtSlot test targets t i n was) {old mid : List NumberList}
    (taken : IsTakenOut test targets t (drop i (slots_at targets t)) old mid)
  where
    has_later : ℕ → Bool
    has_later = has_slot (drop (i + 1) (slots_at targets t))

    begins_with : (k : ℕ) → has_slot (drop i (slots_at targets t)) k ≡ (eqb n k || has_later k)
    unfolding has_later
    begins_with k =
        ap (λ ss. has_slot ss k) at.begins ∙ ap (λ m. eqb m k || has_later k) at.name

    not_yet : numbers_at mid n ≡ numbers_at old n
    not_yet =
        taken.later n (begins_with n ∙ ap (λ b. b || has_later n) (eq-eqb n n refl))

    -- the list of the slot's name, before t is taken out of it
    pub slot_known : ((k : ℕ) → IsTrue (room_of targets t k) → k < length targets)
        → IsInverse test targets old
        → (n < length mid) × (Contains (numbers_at mid n).items t ↔ IsTrue was)
    slot_known below inverse =
        let n_in : n < length targets = below n at.sits in (
          omega (arith, n_in, inverse.sized, taken.sized),
          subst (λ (list : NumberList). Contains list.items t ↔ IsTrue was) (sym not_yet)
              (subst (λ b. Contains (numbers_at old n).items t ↔ IsTrue b) at.row
              ((inverse.each n n_in).listed t)),
        )

    -- the lists after it
    pub slot_taken : {new : List NumberList} → FollowsOn n t was false mid new
        → IsTakenOut test targets t (drop (i + 1) (slots_at targets t)) old new
    unfolding has_later
    slot_taken {new} f = record {
      sized = f.sized ∙ taken.sized;
      out = λ k in' none. elim (cases_eq n k) [
        | inl e ↦
            subst (λ m. Follows t (passes_on test m (target_at targets t)) false (numbers_at old m)
            (numbers_at new m)) e
            (subst (λ b. Follows t b false (numbers_at old n) (numbers_at new n)) (sym at.row)
            (subst (λ list. Follows t was false list (numbers_at new n)) not_yet f.own))
        | inr off ↦
            subst (Follows t (passes_on test k (target_at targets t)) false (numbers_at old k))
            (sym (f.others k (λ e. off (sym e)))) (taken.out k in'
            (begins_with k ∙ (ap (λ b. b || has_later k) (ne_eqb n k off) ∙ none)))
      ];
      later = λ k there.
          f.others k (λ e. false≢true (sym at.last ∙ subst (λ m. has_later m ≡ true) e there))
          ∙ taken.later k (begins_with k ∙ or_right (eqb n k) (has_later k) there);
    }

-- t has no rows
pub kept_cleared : {targets now : List TargetRows} {old new : TargetRows}
    {needed awaited needed' awaited' : List NumberList} {slotted : List ℕ} (t : ℕ) → targets ≡ now
    → t < length now → old ≡ get_or targets t old → new ≡ cleared old
    → IsInverse has_change (cleared_at targets t) needed'
    → IsInverse has_created (cleared_at targets t) awaited'
    → IsKept targets needed awaited slotted → IsKept (set targets t new) needed' awaited' slotted
kept_cleared {targets} {now} {old} {new} {needed} {awaited} {needed'} {awaited'} {slotted} t is t_in
    at blank needs awaits h =
    let found = found_target t is t_in at in
    let is_new : cleared (target_at targets t) ≡ new = sym (blank ∙ ap cleared found.1) in
    let sits : (k : ℕ) → sits_on k new ≡ sits_on k (target_at targets t) =
    λ k. ap (sits_on k) (sym is_new) ∙ has_slot-blanked (target_at targets t).slots k in
    record {
      small = subst (λ m. m < 2 ^ 32) (sym (length-set targets t new)) h.small;
      below = below_set targets t new found.0 h.below (λ n s. h.below t n (sym (sits n) ∙ s));
      needs = subst (λ x. IsInverse has_change (set targets t x) needed') is_new needs;
      awaits = subst (λ x. IsInverse has_created (set targets t x) awaited') is_new awaits;
      counts = counts_stay targets t new slotted found.0 sits h.counts;
    }
