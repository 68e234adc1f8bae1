-- Searches in ascending pairs.
use Rattle.std.proofs.Common.{◌≡◌, ℕ, ◌≤◌, ◌+◌, true, false, ltb, List, length, get_or, sym, ap, ◌∙◌, subst, inl, inr, arith, Result, Ok, Err, Some}
use Rattle.std.specs.Prelude.{slice_get, MatchResult}
use Rattle.std.specs.List.{Contains}
use Rattle.std.specs.List.Sorted.{IsSortedBy, IsNonDecreasingBy, IsPartitionPoint, IsPartitionedBy, IsSearchInRange, IsBinarySearchResult}
use Rattle.std.specs.Ordering.{nat_cmp, is_lt, ordering_index, ordering_reverse}
use Rattle.std.specs.declared.cmp.Ordering.TheVariants.{Less, Equal, Greater}
use Rattle.std.proofs.lemmas.Bool.{cases_eq, cases_lt, ltb-true, ltb-false}
use Rattle.std.proofs.lemmas.Cmp.{tied_itself}
use Rattle.std.proofs.lemmas.List.Sorted.{searchable_from_sorted, IsPartitionedBy-ltb}
use Rattle.std.proofs.lemmas.Map.Lookups.{exact_pairs, exact_unsigned}
use Rattle.std.proofs.lemmas.Option.{slice_get-get_or}
use Rattle.redodb_graph.specs.Pairs.{ComesBefore, AreAscending, IsStart}
use Rattle.redodb_graph.proofs.Tuples.{pair_cmp, pair_total, less_from_before}

first_rises : (p q : ℕ × ℕ) → ComesBefore p q → p.0 ≤ q.0
first_rises p q before = elim before [ inl first ↦ omega arith | inr second ↦ omega arith ]

-- the first numbers don't fall
pub firsts_rise : (pairs : List (ℕ × ℕ)) → AreAscending pairs → IsNonDecreasingBy (λ p. p.0) pairs
firsts_rise pairs up i j d le in' = elim (cases_eq i j) [
  | inl e ↦
      subst (λ k. (get_or pairs i d).0 ≤ (get_or pairs k d).0) e (omega arith)
  | inr n ↦ first_rises (get_or pairs i d) (get_or pairs j d) (up i j d (omega arith) in')
]

pub parted_by : (pairs : List (ℕ × ℕ)) (t : ℕ) → AreAscending pairs
    → IsPartitionedBy (λ p. ltb p.0 t) pairs
parted_by pairs t up = IsPartitionedBy-ltb (λ (p : ℕ × ℕ). p.0) pairs t (firsts_rise pairs up)

-- the place that a search by the first number finds
pub start_found : (pairs : List (ℕ × ℕ)) (t i : ℕ) → i ≤ length pairs
    → IsPartitionPoint (λ p. ltb p.0 t ≡ true) (λ p. ltb p.0 t ≡ false) pairs i
    → IsStart pairs t i
start_found pairs t i within parted = record {
  within = within;
  parted = (
    λ k d low high. ltb-true (get_or pairs k d).0 t (parted.0 k d low high),
    λ k d low high. ltb-false (get_or pairs k d).0 t (parted.1 k d low high),
  );
}

sorted : (pairs : List (ℕ × ℕ)) → AreAscending pairs
    → IsSortedBy (λ p q. is_lt (pair_cmp p q)) pairs
sorted pairs up k d low high =
    let p = get_or pairs k d in
    let q = get_or pairs (k + 1) d in
    let less : pair_cmp p q ≡ Less = less_from_before p q (up k (k + 1) d (omega arith) high) in
    ap is_lt (pair_total.antisymm q p ∙ ap ordering_reverse less)

module _ (pairs : List (ℕ × ℕ)) (up : AreAscending pairs) (x : ℕ × ℕ) where
  rises : IsNonDecreasingBy (λ p. ordering_index (pair_cmp p x)) pairs
  rises = searchable_from_sorted pair_total (λ (p : ℕ × ℕ). p) pairs x (sorted pairs up)

  -- what a binary search finds
  pub searched : (r : Result ℕ ℕ) → IsSearchInRange r (length pairs)
      → IsBinarySearchResult (λ p. pair_cmp p x) pairs r
      → MatchResult r (λ i. slice_get pairs i ≡ Some x) (λ _. Contains pairs x → ⊥)
  searched (Ok i) within equal =
      let same : get_or pairs i x ≡ x =
      exact_pairs nat_cmp nat_cmp exact_unsigned exact_unsigned (get_or pairs i x) x (equal x) in
      slice_get-get_or pairs i x within ∙ ap Some same
  searched (Err i) within parted = λ c.
      let k = c.0 in
      let at : get_or pairs k x ≡ x = c.2 in
      let itself : pair_cmp (get_or pairs k x) x ≡ Equal =
      ap (λ p. pair_cmp p x) at ∙ tied_itself pair_total x in
      elim (cases_lt k i) [
        | inl below ↦
            let less : pair_cmp (get_or pairs k x) x ≡ Less =
            (parted rises).0 k x (omega arith) below in
            let wrong : Less ≡ Equal = sym less ∙ itself in
            absurd cc
        | inr from ↦
            let more : pair_cmp (get_or pairs k x) x ≡ Greater = (parted rises).1 k x from c.1 in
            let wrong : Greater ≡ Equal = sym more ∙ itself in
            absurd cc
      ]
