-- The pairs of one first number.
use Rattle.std.proofs.Common.{◌≡◌, ◌↔◌, ◌∙◌, ℕ, ◌<◌, ◌≤◌, ◌+◌, ◌-◌, List, length, get_or, drop, sym, ap, subst, inl, inr, arith}
use Rattle.std.specs.Prelude.{slice_range, slice_get, Some, Result, MatchResult, refl}
use Rattle.std.specs.List.Sorted.{IsSearchInRange, IsBinarySearchResult}
use Rattle.std.proofs.lemmas.Result.{MatchResult-weaker}
use Rattle.redodb_graph.proofs.Found.{searched}
use Rattle.redodb_graph.proofs.Tuples.{pair_cmp}
use Rattle.std.proofs.lemmas.Option.{slice_get-get_or, slice_get_within, get_or_from_slice_get}
use Rattle.std.specs.List.{Contains}
use Rattle.std.proofs.lemmas.Bool.{cases_lt}
use Rattle.std.proofs.lemmas.List.{get_or-take, get_or-drop, length-take, length-drop}
use Rattle.redodb_graph.specs.Pairs.{ComesBefore, AreAscending, IsStart}

module _ (pairs : List (ℕ × ℕ)) (i j : ℕ) where
  long : j ≤ length pairs → length (slice_range pairs i j) ≡ j - i
  long within =
      omega (arith, within, length-take (j - i) (drop i pairs), length-drop i pairs)

  at : (k : ℕ) (d : ℕ × ℕ) → k < j - i → get_or (slice_range pairs i j) k d ≡ get_or pairs (i + k) d
  at k d below = get_or-take (j - i) (drop i pairs) k d below ∙ get_or-drop i pairs k d

  pub block_ascends : j ≤ length pairs → AreAscending pairs → AreAscending (slice_range pairs i j)
  block_ascends within up m n d before in' =
      let last : n < j - i = omega (arith, in', long within) in
      let first : m < j - i = omega (arith, before, last) in
      subst (λ p. ComesBefore p (get_or (slice_range pairs i j) n d)) (sym (at m d first))
      (subst (ComesBefore (get_or pairs (i + m) d)) (sym (at n d last))
      (up (i + m) (i + n) d (omega (arith, before)) (omega (arith, last, within))))

  pub block_has : (t : ℕ) → IsStart pairs t i → IsStart pairs (t + 1) j → (p : ℕ × ℕ)
      → Contains (slice_range pairs i j) p ↔ (Contains pairs p × (p.0 ≡ t))
  block_has t from to p = (
    λ c.
        let k = c.0 in
        let below : k < j - i = omega (arith, c.1, long to.within) in
        let is : get_or pairs (i + k) p ≡ p = sym (at k p below) ∙ c.2 in
        let low : t ≤ p.0 =
        subst (λ (q : ℕ × ℕ). t ≤ q.0) is
        (from.parted.1 (i + k) p (omega arith) (omega (arith, below, to.within))) in
        let high : p.0 < t + 1 =
        subst (λ (q : ℕ × ℕ). q.0 < t + 1) is
        (to.parted.0 (i + k) p (omega arith) (omega (arith, below))) in
        ((i + k, omega (arith, below, to.within), is), omega (arith, low, high)),
    λ h.
        let k = h.0.0 in
        let is : get_or pairs k p ≡ p = h.0.2 in
        let above : i ≤ k = elim (cases_lt k i) [
          | inl lt ↦
              let less : p.0 < t =
              subst (λ (q : ℕ × ℕ). q.0 < t) is (from.parted.0 k p (omega arith) lt) in
              absurd (omega (arith, less, h.1))
          | inr le ↦ le
        ] in
        let below : k < j = elim (cases_lt k j) [
          | inl lt ↦ lt
          | inr le ↦
              let more : t + 1 ≤ p.0 =
              subst (λ (q : ℕ × ℕ). t + 1 ≤ q.0) is (to.parted.1 k p le h.0.1) in
              absurd (omega (arith, more, h.1))
        ] in
        let place : i + (k - i) ≡ k = omega (arith, above) in (
          k - i,
          omega (arith, above, below, long to.within),
          at (k - i) p (omega (arith, above, below)) ∙ ap (λ m. get_or pairs m p) place ∙ is,
        ),
  )

  -- a start isn't after that of the next number
  pub starts_rise : (t : ℕ) → IsStart pairs t i → IsStart pairs (t + 1) j → i ≤ j
  starts_rise t from to = elim (cases_lt j i) [
    | inl lt ↦
        let p : ℕ × ℕ = get_or pairs j (0, 0) in
        let less : p.0 < t = from.parted.0 j (0, 0) (omega arith) lt in
        let more : t + 1 ≤ p.0 =
        to.parted.1 j (0, 0) (omega arith) (omega (arith, lt, from.within)) in
        absurd (omega (arith, less, more))
    | inr le ↦ le
  ]

  -- what a block has at a place
  pub block_get : j ≤ length pairs → (k : ℕ) (x : ℕ × ℕ)
      → slice_get (slice_range pairs i j) k ≡ Some x
      → slice_get pairs (i + k) ≡ Some x
  block_get within k x found =
      let below : k < j - i =
      omega (arith, slice_get_within (slice_range pairs i j) k x found, long within) in
      slice_get-get_or pairs (i + k) x (omega (arith, below, within))
      ∙ ap Some (sym (at k x below) ∙ get_or_from_slice_get (slice_range pairs i j) k x x found)

  -- what a search of a block finds
  pub block_searched : AreAscending pairs → (x : ℕ × ℕ) → IsStart pairs x.0 i
      → IsStart pairs (x.0 + 1) j → (r : Result ℕ ℕ)
      → IsSearchInRange r (length (slice_range pairs i j))
      → IsBinarySearchResult (λ p. pair_cmp p x) (slice_range pairs i j) r
      → MatchResult r (λ k. slice_get pairs (i + k) ≡ Some x) (λ _. Contains pairs x → ⊥)
  block_searched up x from to r within position =
      MatchResult-weaker r
      (searched (slice_range pairs i j) (block_ascends to.within up) x r within position)
      (λ k found. block_get to.within k x found)
      (λ _ none there. none ((block_has x.0 from to x).1 (there, refl)))
