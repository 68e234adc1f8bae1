-- The bits of the sessions that are ready, and of those that wait.
use lib.Count.{count_trailing_zeros}
use Rattle.std.proofs.Common.{◌≡◌, ◌≢◌, ◌∙◌, ℕ, ◌<◌, ◌≤◌, ◌*◌, ◌%◌, ◌^◌, List, length, get_or, set, sym, ap, subst, inl, inr, arith, w64}
use Rattle.std.specs.Prelude.{bit_and, bit_or}
use Rattle.std.specs.Int.{bit_at, bit_not, trailing_zeros}
use Rattle.std.proofs.lemmas.Bool.{cases_eq, cases_lt}
use Rattle.std.proofs.lemmas.Nat.{and_le_l}
use Rattle.std.proofs.lemmas.Nat.Bits.{bit_at-zero, bit_at_set_same, bit_at_set_other, bit_at_clear_same, bit_at-trailing_zeros}
use Rattle.std.proofs.lemmas.List.{get_or-set_same, get_or-set_other, get_or_default}
use Rattle.redodb_journal.specs.declared.entry.Place.{Place}
use Rattle.redodb_journal.specs.declared.entry.Place.TheVariants.{Row, Granted, Busy, Released}
use Rattle.redodb_merge.specs.Support.Waiting.{bucket_of, bucket_woken, NoneIsReady, IsFirstReady}

-- the least bit is that of the first session that is ready
module _ (ready n : ℕ) (fits : ready < 2 ^ 64) (few : n ≤ 64) where
  zeros_of_none : ready ≡ 0 → trailing_zeros w64 ready ≡ 64
  unfolding count_trailing_zeros
  zeros_of_none e = ap (trailing_zeros w64) e

  pub first_ready : trailing_zeros w64 ready < n → IsFirstReady ready n (trailing_zeros w64 ready)
  first_ready less = elim (cases_eq ready 0) [
    | inl e ↦ absurd (omega (arith, zeros_of_none e, less, few))
    | inr some ↦
        let at = bit_at-trailing_zeros w64 ready (omega (arith, some)) fits in
        record { below = less; is = at.1; first = at.2 }
  ]

  pub none_ready : n ≤ trailing_zeros w64 ready → NoneIsReady ready n
  none_ready past u below = elim (cases_eq ready 0) [
    | inl e ↦ ap (λ r. bit_at r u) e ∙ bit_at-zero u
    | inr some ↦
        let at = bit_at-trailing_zeros w64 ready (omega (arith, some)) fits in
        at.2 u (omega (arith, past, below))
  ]

-- a session that is no longer ready
pub fewer_ready : (ready s : ℕ) → s < 64 → bit_at ready s ≡ 1
    → bit_and ready (bit_not w64 (1 * 2 ^ s % 2 ^ 64)) < ready
fewer_ready ready s below on =
    let less = bit_and ready (bit_not w64 (1 * 2 ^ s % 2 ^ 64)) in
    let at_most : less ≤ ready = and_le_l ready (bit_not w64 (1 * 2 ^ s % 2 ^ 64)) in
    elim (cases_lt less ready) [
      | inl is ↦ is
      | inr past ↦
          let same : less ≡ ready = omega (arith, past, at_most) in
          let off = bit_at_clear_same w64 ready s below in
          absurd (omega (arith, sym (ap (λ r. bit_at r s) same) ∙ off, on))
    ]

pub bucket_small : (place : Place) → bucket_of place < 512
bucket_small (Row r) = omega arith
bucket_small place = omega arith

pub woken_small : (place : Place) → bucket_woken place < 512
woken_small (Row r) = omega arith
woken_small place = omega arith

-- a session's bit that was put into a bucket
module _ (buckets : List ℕ) (i w s : ℕ) (in' : i < length buckets) (read : w ≡ get_or buckets i w)
    (below : s < 64) where
  abbrev pub put : List ℕ
  put = set buckets i (bit_or w (1 * 2 ^ s % 2 ^ 64))

  pub put_here : (j : ℕ) → i ≡ j → bit_at (get_or put j 0) s ≡ 1
  put_here j is =
      subst (λ k. bit_at (get_or put k 0) s ≡ 1) is
      (ap (λ x. bit_at x s) (get_or-set_same buckets i (bit_or w (1 * 2 ^ s % 2 ^ 64)) 0 in')
      ∙ bit_at_set_same w64 w s below)

  pub put_others : (j u : ℕ) → u ≢ s → bit_at (get_or put j 0) u ≡ bit_at (get_or buckets j 0) u
  put_others j u other = elim (cases_eq j i) [
    | inl e ↦
        ap (λ k. bit_at (get_or put k 0) u) e
        ∙ ap (λ x. bit_at x u) (get_or-set_same buckets i (bit_or w (1 * 2 ^ s % 2 ^ 64)) 0 in')
        ∙ bit_at_set_other w64 w s below u other
        ∙ ap (λ x. bit_at x u) (read ∙ get_or_default buckets i w 0 in')
        ∙ ap (λ k. bit_at (get_or buckets k 0) u) (sym e)
    | inr far ↦ ap (λ x. bit_at x u)
        (get_or-set_other buckets i j (bit_or w (1 * 2 ^ s % 2 ^ 64)) 0 far)
  ]
