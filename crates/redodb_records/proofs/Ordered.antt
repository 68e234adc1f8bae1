-- Lists in the ascending order of a number of each element, each number once.
use Rattle.std.proofs.Common.{◌≡◌, ℕ, ◌<◌, ◌≤◌, List, length, get_or, set, sym, ap, ◌∙◌, subst, inl, inr, arith, Result, Ok, Err}
use Rattle.std.proofs.lemmas.Bool.{cases_eq}
use Rattle.std.proofs.lemmas.Bool.Decides.{nat_tests}
use Rattle.std.proofs.lemmas.Cmp.{ranked}
use Rattle.std.proofs.lemmas.List.{get_or_default, length-set, get_or-set_same, get_or-set_other}
use Rattle.std.specs.List.{AllPairs}
use Rattle.std.specs.List.Sorted.{IsSearchInRange, IsBinarySearchResult, IsNonDecreasingBy}
use Rattle.std.specs.Ordering.{nat_cmp, ordering_index}
use Rattle.std.specs.Result.{MatchResult}

module _ {X : Type 0} (number : X → ℕ) (xs : List X)
    (order : AllPairs (λ x y. number x < number y) xs) where
  -- the comparisons with n rise along the list, as a binary search asks
  comparisons_rise : (n : ℕ) → IsNonDecreasingBy (λ x. ordering_index (nat_cmp (number x) n)) xs
  comparisons_rise n i j d le within =
      let numbers_rise : number (get_or xs i d) ≤ number (get_or xs j d) =
      grind (arith, order i j d, λ (same : i ≡ j). ap (λ k. number (get_or xs k d)) same) in
      grind (arith, nat_tests)

  -- a binary search by number ends at the element with it, or at the gap for one
  pub searched_by : (n : ℕ) (r : Result ℕ ℕ) → IsSearchInRange r (length xs)
      → IsBinarySearchResult (λ x. nat_cmp (number x) n) xs r
      → MatchResult r (λ i. (i < length xs) × ((d : X) → number (get_or xs i d) ≡ n))
      (λ i. (i ≤ length xs) × ((k : ℕ) (d : X) → k < i → number (get_or xs k d) < n)
      × ((k : ℕ) (d : X) → i ≤ k → k < length xs → n < number (get_or xs k d)))
  searched_by n (Ok i) in_range equal = (in_range, λ d. ranked _ n _ (sym (equal d)))
  searched_by n (Err i) in_range parted = (
    in_range,
    λ k d less. ranked _ n _ (sym ((parted (comparisons_rise n)).0 k d (omega arith) less)),
    λ k d le within. ranked _ n _ (sym ((parted (comparisons_rise n)).1 k d le within)),
  )

  -- another element with the same number
  pub set_in_order : (i : ℕ) (new : X) → i < length xs → number (get_or xs i new) ≡ number new
      → AllPairs (λ x y. number x < number y) (set xs i new)
  set_in_order i new at same j k d before within =
      let in_k : k < length xs = subst (λ m. k < m) (length-set xs i new) within in
      let kept : (m : ℕ) → number (get_or (set xs i new) m d) ≡ number (get_or xs m d) =
      λ m. elim (cases_eq m i) [
        | inl e ↦ subst (λ l. number (get_or (set xs i new) l d) ≡ number (get_or xs l d)) (sym e)
            (ap number (get_or-set_same xs i new d at)
            ∙ sym (ap number (get_or_default xs i d new at) ∙ same))
        | inr off ↦ ap number (get_or-set_other xs i m new d off)
      ] in
      omega (arith, kept j, kept k, order j k d before in_k)
