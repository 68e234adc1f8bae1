-- The first place of a byte.
use Rattle.std.proofs.Common.{◌≡◌, ℕ, ◌<◌, ◌≤◌, Bool, true, false, cond, List, length, get_or, Option, Some, None, refl, sym, ap, ◌∙◌, arith, ltb, position}
use Rattle.std.specs.List.{position_or_len}
use Rattle.std.proofs.lemmas.Bool.{lt-ltb, le-ltb, ltb-false, false_from_ne_true}
use Rattle.memchr.specs.Find.{IsFirst}
use Rattle.std.proofs.lemmas.List.Sums.{position_or_len_is, fails_before_first}

-- a place that passes, after places that don't
place_is : (p : ℕ → Bool) (xs : List ℕ) (i : ℕ) → i < length xs
    → ((k : ℕ) → k < i → p (get_or xs k 0) ≡ false) → p (get_or xs i 0) ≡ true
    → position p xs ≡ Some i
place_is p xs i lt before here =
    let first : position_or_len p xs ≡ i =
    position_or_len_is p xs i 0 (omega arith) before (λ _. here) in
    let within : ltb i (length xs) ≡ true = lt-ltb _ _ lt in
    ap (λ (n : ℕ). cond (ltb n (length xs)) (Some n) None) first
    ∙ ap (λ (b : Bool). cond b (Some i) None) within

-- no place passes
no_place : (p : ℕ → Bool) (xs : List ℕ) → ((k : ℕ) → k < length xs → p (get_or xs k 0) ≡ false)
    → position p xs ≡ None
no_place p xs none =
    let first : position_or_len p xs ≡ length xs =
    position_or_len_is p xs (length xs) 0 (omega arith) none (λ h. absurd (omega (arith, h))) in
    let past : ltb (length xs) (length xs) ≡ false = le-ltb _ _ (omega arith) in
    ap (λ (n : ℕ). cond (ltb n (length xs)) (Some n) None) first
    ∙ ap (λ (b : Bool). cond b (Some (length xs)) None) past

-- what a search for the first place answers
pub first_place : (p : ℕ → Bool) (xs : List ℕ) (r : Option ℕ)
    → IsFirst (λ k. p (get_or xs k 0) ≡ true) 0 (length xs) r → r ≡ position p xs
first_place p xs None none = sym (no_place p xs (λ k lt. false_from_ne_true _ (none k (omega arith) lt)))
first_place p xs (Some i) first =
    let before = λ (k : ℕ) (lt : k < i). false_from_ne_true _ (first.0.before k (omega arith) lt) in
    sym (place_is p xs i first.0.high before first.1)

pub not_some : (b : Bool) (n : ℕ) → cond b (Some n) None ≡ None → b ≡ false
not_some true n e = absurd cc
not_some false n e = refl

-- if there is no first place, none passes
pub none_passes : (p : ℕ → Bool) (xs : List ℕ) → position p xs ≡ None → (k : ℕ) → k < length xs
    → p (get_or xs k 0) ≡ false
none_passes p xs none k lt =
    let past : length xs ≤ position_or_len p xs =
    ltb-false _ _
    (not_some (ltb (position_or_len p xs) (length xs)) (position_or_len p xs) none) in
    fails_before_first p xs k 0 (omega (arith, past))
