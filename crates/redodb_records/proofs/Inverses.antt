-- One target replaced by another, and the list of a name with it.
use Rattle.std.proofs.Common.{◌≡◌, ◌≢◌, ◌⊎◌, ◌↔◌, ℕ, ◌<◌, ◌≤◌, ◌+◌, Bool, true, false, cond, List, [], ◌∷◌, length, get_or, set, refl, sym, ap, ◌∙◌, subst, inl, inr, arith, IsTrue, eqb, ne_eqb, eq-eqb}
use Rattle.std.proofs.lemmas.Bool.{cases_eq, cases_Bool, false≢true}
use Rattle.std.proofs.lemmas.List.{get_or-set_same, get_or-set_other, length-set, get_or_default}
use Rattle.std.proofs.lemmas.List.Sums.{sum_by-set, sum_by-cons}
use Rattle.std.specs.List.{count_by, Contains}
use Rattle.redodb_records.specs.Rows.{Slot, TargetRows, slot_at, has_slot, target_at, bare}
use Rattle.redodb_records.specs.Numbers.{NumberList}
use Rattle.redodb_records.specs.Support.Kept.{no_numbers, passes_on, sits_on, slots_on, numbers_at, IsInverseOn, IsInverse, CountsSlots, Follows, FollowsOn}

abbrev pub flag : Bool → ℕ
flag b = cond b 1 0

-- the test passes on no blank slot
abbrev pub IsRowTest : (Slot → Bool) → Type 0
IsRowTest test = (n : ℕ) → test (slot_at [] n) ≡ false

pub target_same : (targets : List TargetRows) (t : ℕ) (new : TargetRows) → t < length targets
    → target_at (set targets t new) t ≡ new
target_same targets t new below = get_or-set_same targets t new bare below

pub target_other : (targets : List TargetRows) (t u : ℕ) (new : TargetRows) → u ≢ t
    → target_at (set targets t new) u ≡ target_at targets u
target_other targets t u new off = get_or-set_other targets t u new bare off

-- the target that the code finds at t
pub found_target : {targets now : List TargetRows} {old : TargetRows} (t : ℕ) → targets ≡ now
    → t < length now → old ≡ get_or targets t old
    → (t < length targets) × (old ≡ target_at targets t)
found_target {targets} {now} {old} t is t_in at =
    let below : t < length targets =
    subst (λ (ts : List TargetRows). t < length ts) (sym is) t_in in
    (below, at ∙ get_or_default targets t old bare below)

count_set : (p : TargetRows → Bool) (targets : List TargetRows) (t : ℕ) (new : TargetRows)
    → t < length targets → count_by p (set targets t new) + flag (p (target_at targets t))
    ≡ count_by p targets + flag (p new)
count_set p targets t new below = sum_by-set (λ x. flag (p x)) targets t new bare below

pub inverse_on_set : (test : Slot → Bool) (targets : List TargetRows) (t : ℕ) (new : TargetRows)
    (n : ℕ) (list list' : NumberList) → t < length targets
    → IsInverseOn test targets n list
    → Follows t (passes_on test n (target_at targets t)) (passes_on test n new) list list'
    → slots_on targets n + flag (sits_on n new) ≤ list'.room + flag
    (sits_on n (target_at targets t))
    → IsInverseOn test (set targets t new) n list'
inverse_on_set test targets t new n list list' below h f room = record {
  listed = λ u. elim (cases_eq u t) [
    | inl here ↦
        subst (λ k. Contains list'.items k
        ↔ IsTrue (passes_on test n (target_at (set targets t new) k))) (sym here)
        (subst (λ x. Contains list'.items t ↔ IsTrue (passes_on test n x))
        (sym (target_same targets t new below)) f.own)
    | inr off ↦
        let a = f.others u off in
        let b = h.listed u in
        subst (λ x. Contains list'.items u ↔ IsTrue (passes_on test n x))
        (sym (target_other targets t u new off)) (λ c. b.0 (a.0 c), λ c. a.1 (b.1 c))
  ];
  counted = omega (arith, count_set (passes_on test n) targets t new below, f.counted, h.counted);
  room = omega (arith, count_set (sits_on n) targets t new below, room);
}

-- a list whose items stay
pub follows_same : (test : Slot
    → Bool) (targets : List TargetRows) (t n : ℕ) (list list' : NumberList)
    → IsInverseOn test targets n list → list'.items ≡ list.items → list.room ≤ list'.room → Follows
    t (passes_on test n (target_at targets t)) (passes_on test n (target_at targets t)) list list'
follows_same test targets t n list list' h same room = record {
  others = λ u off. (
    λ c. subst (λ xs. Contains xs u) same c,
    λ c. subst (λ xs. Contains xs u) (sym same) c,
  );
  own = subst (λ xs. Contains xs t ↔ IsTrue (passes_on test n (target_at targets t))) (sym same)
      (h.listed t);
  counted = ap (λ xs. length xs + flag (passes_on test n (target_at targets t))) same;
  room = room;
}

pub inverse_on_stays : (test : Slot → Bool) (targets : List TargetRows) (t : ℕ) (new : TargetRows)
    (n : ℕ) (list : NumberList) → t < length targets
    → passes_on test n new ≡ passes_on test n (target_at targets t)
    → sits_on n new ≡ sits_on n (target_at targets t)
    → IsInverseOn test targets n list → IsInverseOn test (set targets t new) n list
inverse_on_stays test targets t new n list below passes sits h =
    inverse_on_set test targets t new n list list below h
    (subst (λ b. Follows t (passes_on test n (target_at targets t)) b list list) (sym passes)
    (follows_same test targets t n list list h refl (omega arith)))
    (omega (arith, h.room, ap flag sits))

-- no list changes
pub inverse_stays : (test : Slot → Bool) (targets : List TargetRows) (t : ℕ) (new : TargetRows)
    (lists : List NumberList) → t < length targets
    → ((k : ℕ) → passes_on test k new ≡ passes_on test k (target_at targets t))
    → ((k : ℕ) → sits_on k new ≡ sits_on k (target_at targets t))
    → IsInverse test targets lists → IsInverse test (set targets t new) lists
inverse_stays test targets t new lists below passes sits h = record {
  sized = h.sized ∙ sym (length-set targets t new);
  each = λ k in'. inverse_on_stays test targets t new k (numbers_at lists k) below (passes k)
      (sits k) (h.each k (subst (λ m. k < m) (length-set targets t new) in'));
}

-- the list of n changes
pub inverse_set : (test : Slot → Bool) (targets : List TargetRows) (t : ℕ) (new : TargetRows)
    (n : ℕ) (lists lists' : List NumberList) → t < length targets
    → ((k : ℕ) → k ≢ n → passes_on test k new ≡ passes_on test k (target_at targets t))
    → ((k : ℕ) → k ≢ n → sits_on k new ≡ sits_on k (target_at targets t))
    → FollowsOn n t (passes_on test n (target_at targets t)) (passes_on test n new) lists lists'
    → (n < length targets → slots_on targets n + flag
    (sits_on n new) ≤ (numbers_at lists' n).room + flag (sits_on n (target_at targets t)))
    → IsInverse test targets lists → IsInverse test (set targets t new) lists'
inverse_set test targets t new n lists lists' below passes sits f room h = record {
  sized = f.sized ∙ (h.sized ∙ sym (length-set targets t new));
  each = λ k in'.
      let old_in : k < length targets = subst (λ m. k < m) (length-set targets t new) in' in
      elim (cases_eq k n) [
        | inl here ↦
            let n_in : n < length targets = subst (λ j. j < length targets) here old_in in
            subst (λ j. IsInverseOn test (set targets t new) j (numbers_at lists' j)) (sym here)
            (inverse_on_set test targets t new n (numbers_at lists n) (numbers_at lists' n) below
            (h.each n n_in) f.own (room n_in))
        | inr off ↦
            subst (λ list. IsInverseOn test (set targets t new) k list) (sym (f.others k off))
            (inverse_on_stays test targets t new k (numbers_at lists k) below (passes k off)
            (sits k off) (h.each k old_in))
      ];
}

-- the lists with another at n
pub follows_on_set : (n t : ℕ) (was is : Bool) (lists : List NumberList) (new : NumberList)
    → n < length lists → Follows t was is (numbers_at lists n) new
    → FollowsOn n t was is lists (set lists n new)
follows_on_set n t was is lists new n_in f = record {
  sized = length-set lists n new;
  others = λ k off. get_or-set_other lists n k new no_numbers off;
  own = subst (λ list. Follows t was is (numbers_at lists n) list)
      (sym (get_or-set_same lists n new no_numbers n_in)) f;
}

-- the lists, none of which changes
pub follows_on_same : (t n : ℕ) (was : Bool) (lists : List NumberList)
    → Contains (numbers_at lists n).items t ↔ IsTrue was → FollowsOn n t was was lists lists
follows_on_same t n was lists own = record {
  sized = refl;
  others = λ k off. refl;
  own = record {
    others = λ u off. (λ c. c, λ c. c);
    own = own;
    counted = refl;
    room = omega arith;
  };
}

-- one of the counts changes
pub counts_set : (targets : List TargetRows) (t : ℕ) (new : TargetRows) (n m : ℕ) (slotted : List ℕ)
    → t < length targets
    → ((k : ℕ) → k ≢ n → sits_on k new ≡ sits_on k (target_at targets t))
    → (n < length targets
    → m + flag (sits_on n (target_at targets t)) ≡ get_or slotted n 0 + flag (sits_on n new))
    → CountsSlots targets slotted → CountsSlots (set targets t new) (set slotted n m)
counts_set targets t new n m slotted below sits more h = record {
  sized = length-set slotted n m ∙ (h.sized ∙ sym (length-set targets t new));
  each = λ k in'.
      let old_in : k < length targets = subst (λ j. k < j) (length-set targets t new) in' in
      elim (cases_eq k n) [
        | inl here ↦
            let n_in : n < length targets = subst (λ j. j < length targets) here old_in in
            let slotted_in : n < length slotted = subst (λ j. n < j) (sym h.sized) n_in in
            subst (λ j. get_or (set slotted n m) j 0 ≡ slots_on (set targets t new) j) (sym here)
            (omega (
              arith,
              get_or-set_same slotted n m 0 slotted_in,
              count_set (sits_on n) targets t new below,
              more n_in,
              h.each n n_in,
            ))
        | inr off ↦
            omega (
              arith,
              get_or-set_other slotted n k m 0 off,
              count_set (sits_on k) targets t new below,
              ap flag (sits k off),
              h.each k old_in,
            )
      ];
}

-- no count changes
pub counts_stay : (targets : List TargetRows) (t : ℕ) (new : TargetRows) (slotted : List ℕ)
    → t < length targets → ((k : ℕ) → sits_on k new ≡ sits_on k (target_at targets t))
    → CountsSlots targets slotted → CountsSlots (set targets t new) slotted
counts_stay targets t new slotted below sits h = record {
  sized = h.sized ∙ sym (length-set targets t new);
  each = λ k in'. omega (
    arith,
    count_set (sits_on k) targets t new below,
    ap flag (sits k),
    h.each k (subst (λ j. k < j) (length-set targets t new) in'),
  );
}

-- a name with a row has a slot
pub slotted_row : (test : Slot → Bool) → IsRowTest test → (slots : List Slot) (n : ℕ)
    → test (slot_at slots n) ≡ true → has_slot slots n ≡ true
slotted_row test blank [] n row = absurd (false≢true (sym (blank n) ∙ row))
slotted_row test blank (slot ∷ slots) n row = elim (cases_eq slot.name n) [
  | inl here ↦ rw (eq-eqb slot.name n here) refl
  | inr off ↦
      let e : eqb slot.name n ≡ false = ne_eqb slot.name n off in
      rw e (slotted_row test blank slots n (rw e at row))
]

pub no_slot_no_row : (test : Slot → Bool) → IsRowTest test → (slots : List Slot) (n : ℕ)
    → has_slot slots n ≡ false → test (slot_at slots n) ≡ false
no_slot_no_row test blank slots n none = elim (cases_Bool (test (slot_at slots n))) [
  | inl row ↦ absurd (false≢true (sym none ∙ slotted_row test blank slots n row))
  | inr no_row ↦ no_row
]

flag_le : (a b : Bool) → (a ≡ true → b ≡ true) → flag a ≤ flag b
flag_le a b f = elim (cases_Bool a) [
  | inl on ↦ omega (arith, ap flag on, ap flag (f on))
  | inr off ↦ omega (arith, ap flag off)
]

count_le : {X : Type 0} (p q : X → Bool) (xs : List X) → ((x : X) → p x ≡ true → q x ≡ true)
    → count_by p xs ≤ count_by q xs
count_le p q [] f = omega arith
count_le p q (x ∷ xs) f =
    omega (
      arith,
      sum_by-cons (λ y. flag (p y)) x xs,
      sum_by-cons (λ y. flag (q y)) x xs,
      flag_le (p x) (q x) (f x),
      count_le p q xs f,
    )

-- the list has memory for the row of a slot without one
pub has_room_for : (test : Slot → Bool) → IsRowTest test
    → (targets : List TargetRows) (t n : ℕ) (list : NumberList) → t < length targets
    → IsInverseOn test targets n list
    → sits_on n (target_at targets t) ≡ true → passes_on test n (target_at targets t) ≡ false
    → length list.items < list.room
has_room_for test blank targets t n list below h sits no_row =
    let rows = count_set (passes_on test n) targets t bare below in
    let slots = count_set (sits_on n) targets t bare below in
    let le =
    count_le (passes_on test n) (sits_on n) (set targets t bare)
    (λ x. slotted_row test blank x.slots n) in
    omega (
      arith,
      rows,
      slots,
      le,
      h.counted,
      h.room,
      ap flag sits,
      ap flag no_row,
      ap flag (blank n),
    )

-- t comes into the list of n
pub follows_insert : (n t : ℕ) (was : Bool) (lists : List NumberList) (old new : NumberList)
    → n < length lists → old ≡ get_or lists n old → was ≡ false
    → ((u : ℕ) → Contains new.items u ↔ (Contains old.items u ⊎ (u ≡ t)))
    → length new.items ≡ length old.items + 1 → old.room ≤ new.room
    → FollowsOn n t was true lists (set lists n new)
follows_insert n t was lists old new n_in at out each longer room =
    let e : old ≡ numbers_at lists n = at ∙ get_or_default lists n old no_numbers n_in in
    follows_on_set n t was true lists new n_in
    (subst (λ list. Follows t was true list new) e (record {
      others = λ u off. (
        λ c. elim ((each u).0 c) [ inl there ↦ there | inr is ↦ absurd (off is) ],
        λ c. (each u).1 (inl c),
      );
      own = (λ c. refl, λ c. (each t).1 (inr refl));
      counted = omega (arith, longer, ap flag out);
      room = room;
    }))

-- t goes out of the list of n
pub follows_remove : (n t : ℕ) (was : Bool) (lists : List NumberList) (old new : NumberList)
    → n < length lists → old ≡ get_or lists n old → was ≡ true
    → ((u : ℕ) → Contains new.items u ↔ (Contains old.items u × (u ≡ t → ⊥)))
    → length new.items + 1 ≡ length old.items → old.room ≤ new.room
    → FollowsOn n t was false lists (set lists n new)
follows_remove n t was lists old new n_in at in' each shorter room =
    let e : old ≡ numbers_at lists n = at ∙ get_or_default lists n old no_numbers n_in in
    follows_on_set n t was false lists new n_in
    (subst (λ list. Follows t was false list new) e (record {
      others = λ u off. (λ c. ((each u).0 c).0, λ c. (each u).1 (c, off));
      own = (λ c. absurd (((each t).0 c).1 refl), λ c. absurd (false≢true c));
      counted = omega (arith, shorter, ap flag in');
      room = room;
    }))
