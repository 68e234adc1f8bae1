-- The pairs of a target, and their rows.
use Rattle.std.proofs.Common.{◌≡◌, ◌≢◌, ℕ, ◌<◌, ◌≤◌, ◌+◌, List, length, get_or, ap, subst, inl, inr, arith}
use Rattle.std.specs.Prelude.{AllPairs}
use Rattle.std.proofs.lemmas.Bool.{cases_lt}
use Rattle.std.proofs.lemmas.Option.{slice_get_within, get_or_from_slice_get}
use Rattle.redodb_graph.specs.Pairs.{AreAscending, IsStart}
use Rattle.redodb_replica.specs.PairRows.{IsBlock}

-- no pair has two places
pub once_of : (pairs : List (ℕ × ℕ)) → AreAscending pairs → AllPairs ◌≢◌ pairs
once_of pairs up i j d before below e = elim (up i j d before below) [
  | inl first ↦ omega (arith, first, ap (λ (p : ℕ × ℕ). p.0) e)
  | inr second ↦ omega (arith, second.1, ap (λ (p : ℕ × ℕ). p.1) e)
]

-- the pairs of t are those from its start to that of the next number
pub block_of : (pairs : List (ℕ × ℕ)) (t from to : ℕ) → IsStart pairs t from
    → IsStart pairs (t + 1) to → IsBlock pairs t from to
block_of pairs t from to low high i u n at =
    let within : i < length pairs = slice_get_within pairs i (u, n) at in
    let is : get_or pairs i (u, n) ≡ (u, n) = get_or_from_slice_get pairs i (u, n) (u, n) at in (
      λ own. (
        elim (cases_lt i from) [
          | inl lt ↦
              let less : u < t =
              subst (λ (q : ℕ × ℕ). q.0 < t) is (low.parted.0 i (u, n) (omega arith) lt) in
              absurd (omega (arith, less, own))
          | inr le ↦ le
        ],
        elim (cases_lt i to) [
          | inl lt ↦ lt
          | inr le ↦
              let more : t + 1 ≤ u =
              subst (λ (q : ℕ × ℕ). t + 1 ≤ q.0) is (high.parted.1 i (u, n) le within) in
              absurd (omega (arith, more, own))
        ],
      ),
      λ between.
          let more : t ≤ u =
          subst (λ (q : ℕ × ℕ). t ≤ q.0) is (low.parted.1 i (u, n) between.0 within) in
          let less : u < t + 1 =
          subst (λ (q : ℕ × ℕ). q.0 < t + 1) is
          (high.parted.0 i (u, n) (omega arith) between.1) in
          omega (arith, more, less),
    )
