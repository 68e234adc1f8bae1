-- The invariant of the rows, if there are more targets.
use Rattle.std.proofs.Common.{◌≡◌, ◌↔◌, ℕ, zero, suc, ◌<◌, ◌≤◌, ◌+◌, ◌^◌, Bool, false, List, [], ◌∷◌, ◌++◌, length, get_or, refl, sym, ap, ◌∙◌, subst, inl, inr, arith, IsTrue, length-append}
use Rattle.std.proofs.Math.ListN.{replicate, length-replicate}
use Rattle.std.proofs.lemmas.Bool.{cases_Bool, cases_lt, false≢true}
use Rattle.std.proofs.lemmas.List.{get_or_past}
use Rattle.std.proofs.lemmas.List.Sums.{sum_by-append, sum_by-cons}
use Rattle.std.specs.List.{count_by, Contains}
use Rattle.redodb_model.proofs.MorePlaces.{get_or-extended}
use Rattle.redodb_records.specs.Rows.{Slot, TargetRows, slot_at, has_slot, target_at, bare, room_of, rows_of}
use Rattle.redodb_records.specs.Numbers.{NumberList}
use Rattle.redodb_records.specs.Support.Kept.{has_change, has_created, no_numbers, passes_on, sits_on, numbers_at, IsInverseOn, IsInverse, CountsSlots, IsKept, AreEmpty}
use Rattle.redodb_records.proofs.Inverses.{flag, IsRowTest, no_slot_no_row}

-- the lists, and empty ones after them
lists_more : (lists more : List NumberList) → AreEmpty more → (n : ℕ)
    → ((numbers_at (lists ++ more) n).items ≡ (numbers_at lists n).items)
    × ((numbers_at lists n).room ≤ (numbers_at (lists ++ more) n).room)
lists_more [] more empty n = (empty n, omega arith)
lists_more (list ∷ lists) more empty zero = (refl, omega arith)
lists_more (list ∷ lists) more empty (suc n) = lists_more lists more empty n

none_bare : (p : TargetRows → Bool) → p bare ≡ false → (k : ℕ) → count_by p (replicate k bare) ≡ 0
none_bare p off zero = refl
none_bare p off (suc k) =
    omega (
      arith,
      sum_by-cons (λ x. flag (p x)) bare (replicate k bare),
      ap flag off,
      none_bare p off k,
    )

none_passes : (p : TargetRows → Bool) (targets : List TargetRows)
    → ((t : ℕ) → p (target_at targets t) ≡ false) → count_by p targets ≡ 0
none_passes p [] off = refl
none_passes p (x ∷ targets) off =
    omega (
      arith,
      sum_by-cons (λ y. flag (p y)) x targets,
      ap flag (off zero),
      none_passes p targets (λ t. off (suc t)),
    )

-- no target has a slot for n
inverse_of_none : (test : Slot → Bool) → IsRowTest test → (targets : List TargetRows) (n : ℕ)
    → ((t : ℕ) → room_of targets t n ≡ false) → IsInverseOn test targets n no_numbers
inverse_of_none test blank targets n off =
    let no_row : (t : ℕ) → passes_on test n (target_at targets t) ≡ false = λ t.
    no_slot_no_row test blank (target_at targets t).slots n (off t) in
    record {
      listed = λ t. (
        λ c. absurd (omega (arith, c.1)),
        λ row. absurd (false≢true (sym (no_row t) ∙ row)),
      );
      counted = sym (none_passes (passes_on test n) targets no_row);
      room = omega (arith, none_passes (sits_on n) targets off);
    }

-- there are k more targets
module _ (targets : List TargetRows) (k : ℕ) where
  abbrev grown : List TargetRows
  grown = targets ++ replicate k bare

  pub length-grown : length grown ≡ length targets + k
  length-grown =
      length-append targets (replicate k bare)
      ∙ ap (λ m. length targets + m) (length-replicate k bare)

  target_grown : (t : ℕ) → target_at grown t ≡ target_at targets t
  target_grown t = get_or-extended targets k t bare

  pub room_grown : (t n : ℕ) → room_of grown t n ≡ room_of targets t n
  room_grown t n = ap (λ (x : TargetRows). has_slot x.slots n) (target_grown t)

  pub rows_grown : rows_of grown ≡ rows_of targets
  rows_grown = λ i. record {
    change = λ t n. (slot_at (target_grown t i).slots n).change;
    created = λ t n. (slot_at (target_grown t i).slots n).created;
    always = λ t. (target_grown t i).always;
  }

  count_grown : (p : TargetRows → Bool) → p bare ≡ false → count_by p grown ≡ count_by p targets
  count_grown p off =
      omega (
        arith,
        sum_by-append (λ x. flag (p x)) targets (replicate k bare),
        none_bare p off k,
      )

  inverse_on_grown : (test : Slot → Bool) → IsRowTest test → (n : ℕ) (list more : NumberList)
      → IsInverseOn test targets n list → more.items ≡ list.items → list.room ≤ more.room
      → IsInverseOn test grown n more
  inverse_on_grown test blank n list more h same room = record {
    listed = λ t.
        subst (λ xs. Contains xs t ↔ IsTrue (passes_on test n (target_at grown t))) (sym same)
        (subst (λ x. Contains list.items t ↔ IsTrue (passes_on test n x)) (sym (target_grown t))
        (h.listed t));
    counted = ap length same ∙ h.counted ∙ sym (count_grown (passes_on test n) (blank n));
    room = omega (arith, count_grown (sits_on n) refl, h.room, room);
  }

  -- rows are on names alone
  module _ (below : (t n : ℕ) → IsTrue (room_of targets t n) → n < length targets) where
    no_slots : (n : ℕ) → length targets ≤ n → (t : ℕ) → room_of targets t n ≡ false
    no_slots n past t = elim (cases_Bool (room_of targets t n)) [
      | inl on ↦ let in' : n < length targets = below t n on in absurd (omega arith)
      | inr off ↦ off
    ]

    inverse_at : (test : Slot → Bool) → IsRowTest test → (lists : List NumberList)
        → IsInverse test targets lists → (n : ℕ) → IsInverseOn test targets n (numbers_at lists n)
    inverse_at test blank lists h n = elim (cases_lt n (length targets)) [
      | inl in' ↦ h.each n in'
      | inr past ↦
          let none = get_or_past lists n no_numbers (omega (arith, h.sized)) in
          subst (IsInverseOn test targets n) (sym none)
          (inverse_of_none test blank targets n (no_slots n past))
    ]

    inverse_grown : (test : Slot → Bool) → IsRowTest test → (lists more : List NumberList)
        → length more ≡ k → AreEmpty more → IsInverse test targets lists
        → IsInverse test grown (lists ++ more)
    inverse_grown test blank lists more sized empty h = record {
      sized = omega (arith, length-append lists more, sized, h.sized, length-grown);
      each = λ n in'.
          let longer = lists_more lists more empty n in
          inverse_on_grown test blank n (numbers_at lists n) (numbers_at (lists ++ more) n)
          (inverse_at test blank lists h n) longer.0 longer.1;
    }

    counts_grown : (slotted more : List ℕ) → length more ≡ length targets + k
        → ((n : ℕ) → get_or more n 0 ≡ get_or slotted n 0) → CountsSlots targets slotted
        → CountsSlots grown more
    counts_grown slotted more sized same h = record {
      sized = sized ∙ sym length-grown;
      each = λ n in'. elim (cases_lt n (length targets)) [
        | inl was ↦ same n ∙ h.each n was ∙ sym (count_grown (sits_on n) refl)
        | inr past ↦
            let none : get_or slotted n 0 ≡ 0 =
            get_or_past slotted n 0 (omega (arith, h.sized)) in
            let unslotted = none_passes (sits_on n) targets (no_slots n past) in
            same n ∙ none ∙ sym unslotted ∙ sym (count_grown (sits_on n) refl)
      ];
    }

  pub kept_grown : (needed more_needed awaited more_awaited : List NumberList)
      (slotted more_slotted : List ℕ) → length targets + k < 2 ^ 32
      → length more_needed ≡ k → AreEmpty more_needed
      → length more_awaited ≡ k → AreEmpty more_awaited
      → length more_slotted ≡ length targets + k
      → ((n : ℕ) → get_or more_slotted n 0 ≡ get_or slotted n 0)
      → IsKept targets needed awaited slotted
      → IsKept grown (needed ++ more_needed) (awaited ++ more_awaited) more_slotted
  kept_grown needed more_needed awaited more_awaited slotted more_slotted small need_sized need_none
      await_sized await_none slot_sized slot_same h = record {
        small = omega (arith, length-grown);
        below = λ t n on.
            let was : n < length targets =
            h.below t n (subst (λ b. IsTrue b) (room_grown t n) on) in
            omega (arith, length-grown);
        needs = inverse_grown h.below has_change (λ n. refl) needed more_needed need_sized need_none
            h.needs;
        awaits = inverse_grown h.below has_created (λ n. refl) awaited more_awaited await_sized
            await_none h.awaits;
        counts = counts_grown h.below slotted more_slotted slot_sized slot_same h.counts;
      }
