-- The first line of a text, and the text after it.
use Rattle.std.proofs.Common.{◌≡◌, ℕ, ◌+◌, ◌<◌, ◌≤◌, Bool, true, false, cond, not, List, [], ◌∷◌, length, take, drop, Some, None, refl, ap, subst, arith, ltb, position}
use Rattle.std.proofs.lemmas.Bool.{ltb-false, ltb-true}
use Rattle.std.proofs.lemmas.Option.{cond_some}
use Rattle.std.specs.List.{slice_split, position_or_len, onto_first}
use Rattle.std.proofs.lemmas.List.Splits.{slice_split_first}
use Rattle.redodb_text.proofs.Places.{not_some}

-- if a byte passes, the first part ends at it, and the part after it is split on
pub cut_some : (p : ℕ → Bool) (xs : List ℕ) (i : ℕ) → position p xs ≡ Some i
    → (slice_split p xs ≡ take i xs ∷ slice_split p (drop (i + 1) xs)) × (i < length xs)
cut_some p xs i e =
    let h = cond_some (ltb (position_or_len p xs) (length xs)) (position_or_len p xs) i e in
    let lt : position_or_len p xs < length xs = ltb-true _ _ h.0 in
    subst (λ (n : ℕ). (slice_split p xs ≡ take n xs ∷ slice_split p (drop (n + 1) xs))
    × (n < length xs)) h.1 (slice_split_first p xs 0 lt, lt)

split_whole : (p : ℕ → Bool) (xs : List ℕ) → length xs ≤ position_or_len p xs
    → slice_split p xs ≡ xs ∷ []
split_whole p [] le = refl
split_whole p (x ∷ xs) le = by (p x) le (λ h. split_whole p xs h)
  where
    by : (b : Bool) → length (x ∷ xs) ≤ cond (not b) (1 + position_or_len p xs) 0
        → (length xs ≤ position_or_len p xs → slice_split p xs ≡ xs ∷ [])
        → cond b ([] ∷ slice_split p xs) (onto_first x (slice_split p xs)) ≡ (x ∷ xs) ∷ []
    by true h k = absurd (omega arith)
    by false h k = ap (onto_first x) (k (omega arith))

-- if none passes, there is one part
pub cut_none : (p : ℕ → Bool) (xs : List ℕ) → position p xs ≡ None → slice_split p xs ≡ xs ∷ []
cut_none p xs e =
    split_whole p xs
    (ltb-false _ _ (not_some (ltb (position_or_len p xs) (length xs)) (position_or_len p xs) e))
