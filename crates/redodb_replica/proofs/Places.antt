-- The places of pairs.
use Rattle.std.proofs.Common.{◌≡◌, ◌≢◌, ◌⊎◌, ◌∙◌, ℕ, zero, suc, ◌<◌, ◌≤◌, ◌==◌, ◌&&◌, Bool, true, false, cond, List, [], ◌∷◌, Some, length, get_or, refl, sym, ap, inl, inr, arith}
use Rattle.std.specs.Prelude.{slice_get, AllPairs}
use Rattle.std.proofs.lemmas.Bool.{cases_eq, cases_lt, eq-eqb, ne_eqb}
use Rattle.std.proofs.lemmas.Option.{slice_get_within, get_or_from_slice_get}
use Rattle.redodb_replica.specs.PairRows.{pair_place}

and_false : (b : Bool) → b && false ≡ false
and_false true = refl
and_false false = refl

-- the pair is that of t on n, or it isn't
pub pair_cases : (p : ℕ × ℕ) (t n : ℕ)
    → ((p ≡ (t, n)) × ((p.0 == t) && (p.1 == n) ≡ true))
    ⊎ ((p ≢ (t, n)) × ((p.0 == t) && (p.1 == n) ≡ false))
pair_cases p t n = elim (cases_eq p.0 t) [
  | inl first ↦ elim (cases_eq p.1 n) [
    | inl second ↦
        inl (
          (λ i. (first i, second i)),
          ap (λ b. b && (p.1 == n)) (eq-eqb p.0 t first) ∙ eq-eqb p.1 n second,
        )
    | inr other ↦
        inr (
          (λ e. other (ap (λ (q : ℕ × ℕ). q.1) e)),
          ap (λ b. (p.0 == t) && b) (ne_eqb p.1 n other) ∙ and_false (p.0 == t),
        )
  ]
  | inr other ↦
      inr (
        (λ e. other (ap (λ (q : ℕ × ℕ). q.0) e)),
        ap (λ b. b && (p.1 == n)) (ne_eqb p.0 t other),
      )
]

-- if there is such a pair, it is at its place
pub place_found : (pairs : List (ℕ × ℕ)) (t n : ℕ) (d : ℕ × ℕ)
    → pair_place pairs t n < length pairs → get_or pairs (pair_place pairs t n) d ≡ (t, n)
place_found [] t n d below = absurd (omega (arith, below))
place_found (p ∷ pairs) t n d below = elim (pair_cases p t n) [
  | inl h ↦ ap (λ b. get_or (p ∷ pairs) (cond b 0 (suc (pair_place pairs t n))) d) h.1 ∙ h.0
  | inr h ↦
      let at : pair_place (p ∷ pairs) t n ≡ suc (pair_place pairs t n) =
      ap (λ b. cond b 0 (suc (pair_place pairs t n))) h.1 in
      ap (λ i. get_or (p ∷ pairs) i d) at
      ∙ place_found pairs t n d (omega (arith, below, at))
]

-- no such pair is before its place
place_least : (pairs : List (ℕ × ℕ)) (t n i : ℕ) (d : ℕ × ℕ) → i < length pairs
    → get_or pairs i d ≡ (t, n) → pair_place pairs t n ≤ i
place_least [] t n i d below at = absurd (omega (arith, below))
place_least (p ∷ pairs) t n zero d below at = elim (pair_cases p t n) [
  | inl h ↦
      let here : pair_place (p ∷ pairs) t n ≡ 0 =
      ap (λ b. cond b 0 (suc (pair_place pairs t n))) h.1 in
      omega (arith, here)
  | inr h ↦ absurd (h.0 at)
]
place_least (p ∷ pairs) t n (suc i) d below at =
    let later : pair_place pairs t n ≤ i = place_least pairs t n i d (omega (arith, below)) at in
    elim (pair_cases p t n) [
      | inl h ↦
          let here : pair_place (p ∷ pairs) t n ≡ 0 =
          ap (λ b. cond b 0 (suc (pair_place pairs t n))) h.1 in
          omega (arith, here)
      | inr h ↦
          let next : pair_place (p ∷ pairs) t n ≡ suc (pair_place pairs t n) =
          ap (λ b. cond b 0 (suc (pair_place pairs t n))) h.1 in
          omega (arith, next, later)
    ]

-- a pair that has one place is there
pub place_first : (pairs : List (ℕ × ℕ)) (t n i : ℕ) → AllPairs ◌≢◌ pairs
    → slice_get pairs i ≡ Some (t, n) → pair_place pairs t n ≡ i
place_first pairs t n i once at =
    let below : i < length pairs = slice_get_within pairs i (t, n) at in
    let here : get_or pairs i (t, n) ≡ (t, n) = get_or_from_slice_get pairs i (t, n) (t, n) at in
    let least : pair_place pairs t n ≤ i = place_least pairs t n i (t, n) below here in
    elim (cases_lt (pair_place pairs t n) i) [
      | inl lt ↦ absurd (once (pair_place pairs t n) i (t, n) lt below
          (place_found pairs t n (t, n) (omega (arith, lt, below)) ∙ sym here))
      | inr le ↦ omega (arith, least, le)
    ]

-- the place is that of t on n, and of no other pair
pub place_is : (pairs : List (ℕ × ℕ)) (place t n : ℕ) → AllPairs ◌≢◌ pairs
    → slice_get pairs place ≡ Some (t, n) → (u k : ℕ)
    → (place == pair_place pairs u k) ≡ ((t == u) && (n == k))
place_is pairs place t n once at u k =
    let below : place < length pairs = slice_get_within pairs place (t, n) at in
    elim (pair_cases (t, n) u k) [
      | inl h ↦
          eq-eqb place (pair_place pairs u k)
          (sym (place_first pairs u k place once (at ∙ ap Some h.0)))
          ∙ sym h.1
      | inr h ↦
          ne_eqb place (pair_place pairs u k)
          (λ e.
          let there : pair_place pairs u k < length pairs = omega (arith, below, e) in
          h.0 (sym (get_or_from_slice_get pairs place (t, n) (t, n) at)
          ∙ ap (λ i. get_or pairs i (t, n)) e ∙ place_found pairs u k (t, n) there))
          ∙ sym h.1
    ]
