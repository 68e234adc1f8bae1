-- Counts of busy replies.
use Rattle.std.proofs.Common.{◌≡◌, ℕ, zero, suc, ◌+◌, ◌-◌, ◌*◌, ◌<◌, ◌≤◌, ◌&&◌, eqb, List, ◌∷◌, refl, ap, ◌∙◌, inl, inr, arith, length, get_or, take, Bool, true, false, cond, eq-eqb, eqb-true, add-one, Option, Some, None, IsSome}
use Rattle.std.proofs.lemmas.Bool.{cases_Bool}
use Rattle.std.proofs.lemmas.List.Sums.{sum_by-cons, sum_by-drop_more, sum_by-take-drop}
use Rattle.redodb_history_laws.proofs.Counts.{one_if}
use Rattle.redodb_journal.specs.declared.entry.Place.{Place}
use Rattle.redodb_journal.specs.declared.entry.Place.TheVariants.{Busy}
use Rattle.redodb_journal.specs.declared.entry.Entry.{Entry}
use Rattle.redodb_merge.specs.Support.Merging.{is_busy, busy_one, busy_in, busy_below}

pub and_true : (a b : Bool) → (a && b) ≡ true → (a ≡ true) × (b ≡ true)
and_true true b e = (refl, e)
and_true false b e = absurd (cc)

-- a count that was put at its old place
pub put_at : (old new u h t g n : ℕ) → (u ≡ t → h ≡ g → old ≡ n)
    → new ≡ cond (eqb u t && eqb h g) (n + 1) old → new ≡ old + cond (eqb u t && eqb h g) 1 0
put_at old new u h t g n same e = elim (cases_Bool (eqb u t && eqb h g)) [
  | inl b ↦ let both = and_true (eqb u t) (eqb h g) b in
      let s = same (eqb-true u t both.0) (eqb-true h g both.1) in
      let a : new ≡ n + 1 = e ∙ ap (λ z. cond z (n + 1) old) b in
      let d : one_if (eqb u t && eqb h g) ≡ 1 = ap one_if b in
      omega arith
  | inr b ↦ let a : new ≡ old = e ∙ ap (λ z. cond z (n + 1) old) b in
      let d : one_if (eqb u t && eqb h g) ≡ 0 = ap one_if b in
      omega arith
]

pub took_at : (old new u h t g n : ℕ) → 0 < n → (u ≡ t → h ≡ g → old ≡ n)
    → new ≡ cond (eqb u t && eqb h g) (n - 1) old → new + cond (eqb u t && eqb h g) 1 0 ≡ old
took_at old new u h t g n some same e = elim (cases_Bool (eqb u t && eqb h g)) [
  | inl b ↦ let both = and_true (eqb u t) (eqb h g) b in
      let s = same (eqb-true u t both.0) (eqb-true h g both.1) in
      let a : new ≡ n - 1 = e ∙ ap (λ z. cond z (n - 1) old) b in
      let d : one_if (eqb u t && eqb h g) ≡ 1 = ap one_if b in
      omega arith
  | inr b ↦ let a : new ≡ old = e ∙ ap (λ z. cond z (n - 1) old) b in
      let d : one_if (eqb u t && eqb h g) ≡ 0 = ap one_if b in
      omega arith
]

pub own_one : (u h : ℕ) → busy_one u h (Busy u h) ≡ 1
own_one u h = λ i. one_if (eq-eqb u u refl i && eq-eqb h h refl i)

pub busy_in-cons : (t g : ℕ) (x : Entry) (xs : List Entry)
    → busy_in t g (x ∷ xs) ≡ busy_one t g x.place + busy_in t g xs
busy_in-cons t g x xs = sum_by-cons (λ (e : Entry). one_if (is_busy t g e.place)) x xs

one_at_most : (b : Bool) → cond b 1 0 ≤ 1
one_at_most true = omega arith
one_at_most false = omega arith

pub busy_one-le : (t g : ℕ) (place : Place) → busy_one t g place ≤ 1
busy_one-le t g place = one_at_most (is_busy t g place)

-- the busy replies of the entries up to a place are among all of them
pub busy_in-prefix : (t g : ℕ) (xs : List Entry) (k : ℕ) (x : Entry) → k < length xs
    → x ≡ get_or xs k x → busy_in t g (take k xs) + busy_one t g x.place ≤ busy_in t g xs
busy_in-prefix t g xs k x within is =
    let split = sum_by-take-drop (λ (e : Entry). one_if (is_busy t g e.place)) xs k in
    let here = sum_by-drop_more (λ (e : Entry). one_if (is_busy t g e.place)) xs k x within in
    let same = ap (λ (e : Entry). busy_one t g e.place) is in
    omega arith

pub busy_below-more : (t g : ℕ) (j : ℕ → List Entry) (n : ℕ)
    → busy_below t g j (n + 1) ≡ busy_below t g j n + busy_in t g (j n)
busy_below-more t g j n = ap (busy_below t g j) (add-one n)

pub busy_below-le : (t g : ℕ) (j : ℕ → List Entry) (n : ℕ)
    → ((s : ℕ) → busy_in t g (j s) ≤ 4096) → busy_below t g j n ≤ n * 4096
busy_below-le t g j zero h = omega arith
busy_below-le t g j (suc n) h = omega (arith, busy_below-le t g j n h, h n)

pub some_is : (o : Option ℕ) (n : ℕ) → Some n ≡ o → IsSome o
some_is None n e = absurd (cc)
some_is (Some m) n e = refl
