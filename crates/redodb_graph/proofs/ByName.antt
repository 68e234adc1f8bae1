-- Pairs by their names.
use Rattle.std.proofs.Common.{◌≡◌, ◌↔◌, ℕ, ◌<◌, ◌+◌, List, [], ◌∷◌, ◌++◌, length, get_or, Some, slice_get, refl, sym, ap, ◌∙◌, subst, inl, inr, arith, length-append}
use Rattle.std.specs.List.{Contains}
use Rattle.std.proofs.lemmas.Bool.{cases_lt}
use Rattle.std.proofs.lemmas.List.{get_or_append_left, get_or_at, get_or_default}
use Rattle.std.proofs.lemmas.Option.{slice_get-get_or, slice_get_within, get_or_from_slice_get}
use Rattle.redodb_graph.specs.Graphs.{IsOn}
use Rattle.redodb_graph.specs.Support.Named.{AreByName}

pub by_name_none : (pairs : List (ℕ × ℕ)) → AreByName pairs 0 []
by_name_none pairs = record { whole = refl; each = λ k d e below. absurd (omega (arith, below)) }

pub by_name_push : (pairs keys : List (ℕ × ℕ)) (n : ℕ) (p : ℕ × ℕ) → AreByName pairs n keys
    → n < length pairs → p ≡ get_or pairs n p → AreByName pairs (n + 1) (keys ++ (p.1, n) ∷ [])
by_name_push pairs keys n p are in' at = record {
  whole = length-append keys ((p.1, n) ∷ []) ∙ ap (λ (m : ℕ). m + 1) are.whole;
  each = λ k d e below. elim (cases_lt k n) [
    | inl lt ↦
        get_or_append_left keys ((p.1, n) ∷ []) d k (omega (arith, lt, are.whole))
        ∙ are.each k d e lt
    | inr le ↦
        let same : k ≡ n = omega arith in
        ap (λ i. get_or (keys ++ (p.1, n) ∷ []) i d) same
        ∙ get_or_at keys (p.1, n) [] d n are.whole
        ∙ ap (λ (q : ℕ × ℕ). (q.1, n)) (at ∙ get_or_default pairs n p e in')
        ∙ ap (λ i. ((get_or pairs i e).1, i)) (sym same)
  ];
}

-- each name has the places of the pairs on it
pub on_each : (pairs keys : List (ℕ × ℕ)) → AreByName pairs (length pairs) keys → (n i : ℕ)
    → Contains keys (n, i) ↔ IsOn pairs i n
on_each pairs keys are n i = (
  λ c.
      let k = c.0 in
      let below : k < length pairs = omega (arith, c.1, are.whole) in
      let is : ((get_or pairs k (0, 0)).1, k) ≡ (n, i) =
      sym (are.each k (n, i) (0, 0) below) ∙ c.2 in
      let name : (get_or pairs k (0, 0)).1 ≡ n = ap (λ (q : ℕ × ℕ). q.0) is in
      let place : k ≡ i = ap (λ (q : ℕ × ℕ). q.1) is in (
        (get_or pairs k (0, 0)).0,
        subst (λ j. slice_get pairs j ≡ Some ((get_or pairs k (0, 0)).0, n)) place
            (slice_get-get_or pairs k (0, 0) below
            ∙ ap (λ m. Some ((get_or pairs k (0, 0)).0, m)) name),
      ),
  λ on.
      let below : i < length pairs = slice_get_within pairs i (on.0, n) on.1 in
      let at : get_or pairs i (0, 0) ≡ (on.0, n) =
      get_or_from_slice_get pairs i (on.0, n) (0, 0) on.1 in (
        i,
        omega (arith, below, are.whole),
        are.each i (n, i) (0, 0) below ∙ ap (λ (q : ℕ × ℕ). (q.1, i)) at,
      ),
)
