-- The invariant of the rows, if a row is written, or a slot added.
use Rattle.std.proofs.Common.{◌≡◌, ◌≢◌, ◌↔◌, ℕ, ◌<◌, ◌≤◌, ◌+◌, ◌^◌, Bool, true, false, cond, ◌||◌, List, length, get_or, set, refl, sym, ap, ◌∙◌, subst, inl, inr, arith, IsTrue, eqb, ne_eqb, eq-eqb, Some}
use Rattle.std.proofs.lemmas.Bool.{cases_eq, eqb-true, or_cases}
use Rattle.std.proofs.lemmas.List.{get_or-set_same, get_or-set_other, length-set, get_or_default}
use Rattle.std.specs.List.{Contains}
use Rattle.redodb_model.specs.State.{Mark}
use Rattle.redodb_records.specs.Rows.{Slot, TargetRows, slot_at, has_slot, room_of, target_at}
use Rattle.redodb_records.specs.Numbers.{NumberList}
use Rattle.redodb_records.specs.Support.Kept.{no_numbers, has_change, has_created, passes_on, sits_on, slots_on, numbers_at, IsInverseOn, IsInverse, IsKept, FollowsOn}
use Rattle.redodb_records.proofs.Inverses.{found_target, flag, IsRowTest, inverse_stays, inverse_set, follows_on_same, counts_set, counts_stay, has_room_for}
use Rattle.redodb_records.proofs.Forgetting.{kept_stays, below_set}
use Rattle.redodb_records.proofs.Changed.{WritesChange, WritesCreated, AddsSlot, field_of_cond, cond_same}

-- n gets a row, or keeps it
inverse_put : (test : Slot → Bool) (targets : List TargetRows) (t n : ℕ) (new : TargetRows)
    (was : Bool) (lists lists' : List NumberList) → t < length targets
    → ((k : ℕ) → k ≢ n → passes_on test k new ≡ passes_on test k (target_at targets t))
    → ((k : ℕ) → sits_on k new ≡ sits_on k (target_at targets t))
    → passes_on test n new ≡ true → was ≡ passes_on test n (target_at targets t)
    → FollowsOn n t was true lists lists'
    → IsInverse test targets lists → IsInverse test (set targets t new) lists'
inverse_put test targets t n new was lists lists' below others sits row was_is f h =
    inverse_set test targets t new n lists lists' below others (λ k off. sits k)
    (subst (λ b. FollowsOn n t (passes_on test n (target_at targets t)) b lists lists') (sym row)
    (subst (λ b. FollowsOn n t b true lists lists') was_is f))
    (λ n_in. omega (arith, (h.each n n_in).room, f.own.room, ap flag (sits n)))
    h

keeps_change : (targets : List TargetRows) (t n : ℕ) (new : TargetRows) (mark : Mark) (was : Bool)
    (needed needed' awaited : List NumberList) (slotted : List ℕ) → t < length targets
    → WritesChange (target_at targets t) new n mark → was
    ≡ has_change (slot_at (target_at targets t).slots n) → FollowsOn n t was true needed needed'
    → IsKept targets needed awaited slotted → IsKept (set targets t new) needed' awaited slotted
keeps_change targets t n new mark was needed needed' awaited slotted below w was_is f h =
    let old : ℕ → Slot = slot_at (target_at targets t).slots in
    let written : ℕ → Slot = λ k. record (old k) { change = Some mark } in
    record {
      small = subst (λ m. m < 2 ^ 32) (sym (length-set targets t new)) h.small;
      below = below_set targets t new below h.below (λ k s. h.below t k (sym (w.room k) ∙ s));
      needs = inverse_put has_change targets t n new was needed needed' below
          (λ k off. ap has_change
          (w.rows k ∙ ap (λ b. cond b (written k) (old k)) (ne_eqb n k (λ e. off (sym e)))))
          w.room
          (ap has_change (w.rows n ∙ ap (λ b. cond b (written n) (old n)) (eq-eqb n n refl)))
          was_is f h.needs;
      awaits = inverse_stays has_created targets t new awaited below
          (λ k. ap has_created (w.rows k) ∙ (field_of_cond has_created (eqb n k) (written k) (old k)
          ∙ cond_same (eqb n k) (has_created (old k))))
          w.room h.awaits;
      counts = counts_stay targets t new slotted below w.room h.counts;
    }

keeps_created : (targets : List TargetRows) (t n : ℕ) (new : TargetRows) (was : Bool)
    (needed awaited awaited' : List NumberList) (slotted : List ℕ) → t < length targets
    → WritesCreated (target_at targets t) new n → was
    ≡ has_created (slot_at (target_at targets t).slots n) → FollowsOn n t was true awaited awaited'
    → IsKept targets needed awaited slotted → IsKept (set targets t new) needed awaited' slotted
keeps_created targets t n new was needed awaited awaited' slotted below w was_is f h =
    let old : ℕ → Slot = slot_at (target_at targets t).slots in
    let written : ℕ → Slot = λ k. record (old k) { created = true } in
    record {
      small = subst (λ m. m < 2 ^ 32) (sym (length-set targets t new)) h.small;
      below = below_set targets t new below h.below (λ k s. h.below t k (sym (w.room k) ∙ s));
      needs = inverse_stays has_change targets t new needed below
          (λ k. ap has_change (w.rows k) ∙ (field_of_cond has_change (eqb n k) (written k) (old k)
          ∙ cond_same (eqb n k) (has_change (old k))))
          w.room h.needs;
      awaits = inverse_put has_created targets t n new was awaited awaited' below
          (λ k off. ap has_created
          (w.rows k ∙ ap (λ b. cond b (written k) (old k)) (ne_eqb n k (λ e. off (sym e)))))
          w.room
          (ap has_created (w.rows n ∙ ap (λ b. cond b (written n) (old n)) (eq-eqb n n refl)))
          was_is f h.awaits;
      counts = counts_stay targets t new slotted below w.room h.counts;
    }

-- the inverses' facts about the row of t on n, before it is written
pub record KnowsRow (t n : ℕ) (was : Bool) (lists : List NumberList) : Type 0 where
  pub name : n < length lists
  pub listed : Contains (numbers_at lists n).items t ↔ IsTrue was
  pub room : was ≡ false → length (numbers_at lists n).items < (numbers_at lists n).room

row_known : (test : Slot → Bool) → IsRowTest test
    → (targets : List TargetRows) (t n : ℕ) (was : Bool) (lists : List NumberList)
    → t < length targets → n < length targets
    → sits_on n (target_at targets t) ≡ true → was ≡ passes_on test n (target_at targets t)
    → IsInverse test targets lists → KnowsRow t n was lists
row_known test blank targets t n was lists below n_in sits was_is h = record {
  name = omega (arith, h.sized);
  listed = subst (λ b. Contains (numbers_at lists n).items t ↔ IsTrue b) (sym was_is)
      ((h.each n n_in).listed t);
  room = λ none. has_room_for test blank targets t n (numbers_at lists n) below (h.each n n_in) sits
      (sym was_is ∙ none);
}

-- the list of n reserves more memory
inverse_grown : (test : Slot
    → Bool) (targets : List TargetRows) (n : ℕ) (lists : List NumberList) (old new : NumberList)
    → n < length targets → old ≡ get_or lists n old → new.items ≡ old.items → old.room ≤ new.room
    → IsInverse test targets lists → IsInverse test targets (set lists n new)
inverse_grown test targets n lists old new n_in at same larger h =
    let lists_in : n < length lists = omega (arith, h.sized) in
    let e : old ≡ numbers_at lists n = at ∙ get_or_default lists n old no_numbers lists_in in
    let was : IsInverseOn test targets n old =
    subst (IsInverseOn test targets n) (sym e) (h.each n n_in) in
    record {
      sized = length-set lists n new ∙ h.sized;
      each = λ k in'. elim (cases_eq k n) [
        | inl here ↦
            subst (λ j. IsInverseOn test targets j (numbers_at (set lists n new) j)) (sym here)
            (subst (IsInverseOn test targets n)
            (sym (get_or-set_same lists n new no_numbers lists_in)) (record {
              listed =
                  λ u. subst (λ xs. Contains xs u ↔ IsTrue (passes_on test n (target_at targets u)))
                  (sym same) (was.listed u);
              counted = ap length same ∙ was.counted;
              room = omega (arith, was.room, larger);
            }))
        | inr off ↦ subst (IsInverseOn test targets k)
            (sym (get_or-set_other lists n k new no_numbers off)) (h.each k in')
      ];
    }

pub kept_needed : {targets : List TargetRows} {needed awaited : List NumberList} {slotted : List ℕ}
    {old : NumberList} (n : ℕ) (new : NumberList) → n < length targets → old ≡ get_or needed n old
    → new.items ≡ old.items → old.room ≤ new.room
    → IsKept targets needed awaited slotted → IsKept targets (set needed n new) awaited slotted
kept_needed {targets} {needed} {awaited} {slotted} {old} n new n_in at same larger h = record {
  small = h.small;
  below = h.below;
  needs = inverse_grown has_change targets n needed old new n_in at same larger h.needs;
  awaits = h.awaits;
  counts = h.counts;
}

pub kept_awaited : {targets : List TargetRows} {needed awaited : List NumberList} {slotted : List ℕ}
    {old : NumberList} (n : ℕ) (new : NumberList) → n < length targets → old ≡ get_or awaited n old
    → new.items ≡ old.items → old.room ≤ new.room
    → IsKept targets needed awaited slotted → IsKept targets needed (set awaited n new) slotted
kept_awaited {targets} {needed} {awaited} {slotted} {old} n new n_in at same larger h = record {
  small = h.small;
  below = h.below;
  needs = h.needs;
  awaits = inverse_grown has_created targets n awaited old new n_in at same larger h.awaits;
  counts = h.counts;
}

-- a slot is added if memory is reserved for its row
inverse_slot : (test : Slot → Bool) (targets : List TargetRows) (t n : ℕ) (new : TargetRows)
    (lists : List NumberList) → t < length targets → n < length targets
    → AddsSlot (target_at targets t) new n → slots_on targets n + 1 ≤ (numbers_at lists n).room
    → IsInverse test targets lists → IsInverse test (set targets t new) lists
inverse_slot test targets t n new lists below n_in w room h =
    let row : Bool = passes_on test n (target_at targets t) in
    inverse_set test targets t new n lists lists below
    (λ k off. ap test (w.rows k))
    (λ k off. w.room k ∙ ap (λ b. b || has_slot (target_at targets t).slots k) (ne_eqb k n off))
    (subst (λ b. FollowsOn n t row b lists lists) (sym (ap test (w.rows n)))
    (follows_on_same t n row lists ((h.each n n_in).listed t)))
    (λ in'. omega (
      arith,
      room,
      ap flag (w.room n ∙ ap (λ b. b || has_slot (target_at targets t).slots n) (eq-eqb n n refl)),
    ))
    h

keeps_slot : (targets : List TargetRows) (t n : ℕ) (new : TargetRows)
    (needed awaited : List NumberList) (slotted : List ℕ) (m : ℕ) → t < length targets
    → n < length targets
    → AddsSlot (target_at targets t) new n → has_slot (target_at targets t).slots n ≡ false
    → m ≡ get_or slotted n 0 + 1 → m ≤ (numbers_at needed n).room → m ≤ (numbers_at awaited n).room
    → IsKept targets needed awaited slotted
    → IsKept (set targets t new) needed awaited (set slotted n m)
keeps_slot targets t n new needed awaited slotted m below n_in w none more needed_room awaited_room
    h =
    let now : sits_on n new ≡ true =
    w.room n ∙ ap (λ b. b || has_slot (target_at targets t).slots n) (eq-eqb n n refl) in
    record {
      small = subst (λ k. k < 2 ^ 32) (sym (length-set targets t new)) h.small;
      below =
          below_set targets t new below h.below (λ k s.
          elim (or_cases (eqb k n) (has_slot (target_at targets t).slots k) (sym (w.room k) ∙ s)) [
            | inl here ↦ subst (λ j. j < length targets) (sym (eqb-true k n here)) n_in
            | inr old ↦ h.below t k old
          ]);
      needs = inverse_slot has_change targets t n new needed below n_in w
          (omega (arith, needed_room, more, h.counts.each n n_in)) h.needs;
      awaits = inverse_slot has_created targets t n new awaited below n_in w
          (omega (arith, awaited_room, more, h.counts.each n n_in)) h.awaits;
      counts = counts_set targets t new n m slotted below
          (λ k off. w.room k
          ∙ ap (λ b. b || has_slot (target_at targets t).slots k) (ne_eqb k n off))
          (λ in'. omega (arith, more, ap flag none, ap flag now))
          h.counts;
    }

-- the same in the terms of the code
pub kept_change : {targets now : List TargetRows} {old : TargetRows} {was : Bool}
    {needed needed' awaited : List NumberList} {slotted : List ℕ} (t n : ℕ) (new : TargetRows)
    (mark : Mark) → targets ≡ now → t < length now → old ≡ get_or targets t old
    → WritesChange old new n mark → was ≡ has_change (slot_at old.slots n)
    → FollowsOn n t was true needed needed'
    → IsKept targets needed awaited slotted → IsKept (set targets t new) needed' awaited slotted
kept_change {targets} {now} {old} {was} {needed} {needed'} {awaited} {slotted} t n new mark is t_in
    at w was_is f h =
    let found = found_target t is t_in at in
    keeps_change targets t n new mark was needed needed' awaited slotted found.0
    (subst (λ x. WritesChange x new n mark) found.1 w)
    (was_is ∙ ap (λ (x : TargetRows). has_change (slot_at x.slots n)) found.1) f h

pub kept_created : {targets now : List TargetRows} {old : TargetRows} {was : Bool}
    {needed awaited awaited' : List NumberList} {slotted : List ℕ} (t n : ℕ) (new : TargetRows)
    → targets ≡ now → t < length now → old ≡ get_or targets t old
    → WritesCreated old new n → was ≡ has_created (slot_at old.slots n)
    → FollowsOn n t was true awaited awaited'
    → IsKept targets needed awaited slotted → IsKept (set targets t new) needed awaited' slotted
kept_created {targets} {now} {old} {was} {needed} {awaited} {awaited'} {slotted} t n new is t_in at
    w was_is f h =
    let found = found_target t is t_in at in
    keeps_created targets t n new was needed awaited awaited' slotted found.0
    (subst (λ x. WritesCreated x new n) found.1 w)
    (was_is ∙ ap (λ (x : TargetRows). has_created (slot_at x.slots n)) found.1) f h

pub knows_row : {targets now : List TargetRows} {old : TargetRows} {was : Bool}
    {lists : List NumberList} (test : Slot → Bool) → IsRowTest test → (t n : ℕ) → targets ≡ now
    → t < length now → n < length now → old ≡ get_or targets t old
    → room_of now t n ≡ true → was ≡ test (slot_at old.slots n) → IsInverse test targets lists
    → KnowsRow t n was lists
knows_row {targets} {now} {old} {was} {lists} test blank t n is t_in n_in at room was_is h =
    let found = found_target t is t_in at in
    row_known test blank targets t n was lists found.0
    (subst (λ (ts : List TargetRows). n < length ts) (sym is) n_in) (ap (λ ts. room_of ts t n) is
    ∙ room) (was_is ∙ ap (λ (x : TargetRows). test (slot_at x.slots n)) found.1) h

pub kept_always : {targets now : List TargetRows} {old : TargetRows}
    {needed awaited : List NumberList} {slotted : List ℕ} (t : ℕ) (new : TargetRows)
    → targets ≡ now → t < length now → old ≡ get_or targets t old
    → new.slots ≡ old.slots → IsKept targets needed awaited slotted
    → IsKept (set targets t new) needed awaited slotted
kept_always {targets} {now} {old} {needed} {awaited} {slotted} t new is t_in at same h =
    let found = found_target t is t_in at in
    let slots : new.slots ≡ (target_at targets t).slots =
    same ∙ ap (λ (x : TargetRows). x.slots) found.1 in
    kept_stays targets t new needed awaited slotted found.0 (λ k. ap (λ ss. slot_at ss k) slots)
    (λ k. ap (λ ss. has_slot ss k) slots) h

-- the list of n in other lists has reserved memory
room_there : (lists : List NumberList) (n m : ℕ) (new : NumberList) → n < length lists
    → m ≤ new.room → m ≤ (numbers_at (set lists n new) n).room
room_there lists n m new n_in room =
    subst (λ (x : NumberList). m ≤ x.room) (sym (get_or-set_same lists n new no_numbers n_in)) room

pub kept_slot : {targets now : List TargetRows} {old : TargetRows} {slotted : List ℕ} {m : ℕ}
    (t n : ℕ) (new : TargetRows) (needed awaited : List NumberList)
    (grown_needed grown_awaited : NumberList)
    → targets ≡ now → t < length now → n < length now → old ≡ get_or targets t old
    → AddsSlot old new n → room_of now t n ≡ false → m ≡ get_or slotted n m
    → m + 1 ≤ grown_needed.room → m + 1 ≤ grown_awaited.room
    → IsKept targets (set needed n grown_needed) (set awaited n grown_awaited) slotted
    → IsKept (set targets t new) (set needed n grown_needed) (set awaited n grown_awaited)
    (set slotted n (m + 1))
kept_slot {targets} {now} {old} {slotted} {m} t n new needed awaited grown_needed grown_awaited is
    t_in n_in at w none counted needed_room awaited_room h =
    let found = found_target t is t_in at in
    let name : n < length targets = subst (λ (ts : List TargetRows). n < length ts) (sym is) n_in in
    let needed_in : n < length needed =
    omega (arith, name, h.needs.sized, length-set needed n grown_needed) in
    let awaited_in : n < length awaited =
    omega (arith, name, h.awaits.sized, length-set awaited n grown_awaited) in
    let slotted_in : n < length slotted = omega (arith, name, h.counts.sized) in
    keeps_slot targets t n new (set needed n grown_needed) (set awaited n grown_awaited) slotted
    (m + 1) found.0 name (subst (λ x. AddsSlot x new n) found.1 w)
    (ap (λ ts. room_of ts t n) is ∙ none)
    (ap (λ k. k + 1) (counted ∙ get_or_default slotted n m 0 slotted_in))
    (room_there needed n (m + 1) grown_needed needed_in needed_room)
    (room_there awaited n (m + 1) grown_awaited awaited_in awaited_room) h
