-- Lists with one more element.
use Rattle.std.proofs.Common.{◌≡◌, ℕ, ◌<◌, ◌≤◌, ◌+◌, ◌-◌, List, length, get_or, sym, subst, inl, inr, arith}
use Rattle.std.specs.Prelude.{AllPairs}
use Rattle.std.specs.List.{insert}
use Rattle.std.proofs.lemmas.Bool.{cases_order}
use Rattle.std.proofs.lemmas.List.Edits.{get_or-insert_below, get_or-insert_at, get_or-insert_above, length-insert}

-- if R relates each element before the new one to it, and it to each after it
pub all_pairs_insert : {X : Type 0} (R : X → X → Type 0) (xs : List X) (i : ℕ) (y : X)
    → i ≤ length xs → AllPairs R xs → ((k : ℕ) (d : X) → k < i → R (get_or xs k d) y)
    → ((k : ℕ) (d : X) → i ≤ k → k < length xs → R y (get_or xs k d)) → AllPairs R (insert xs i y)
all_pairs_insert {X = X} R xs i y fit pairs before after a b d lt in' =
    let new = insert xs i y in
    let longer = length-insert xs i y fit in
    let low : (k : ℕ) → k < i → get_or xs k d ≡ get_or new k d =
    λ k below. sym (get_or-insert_below xs i y d k below fit) in
    let here : (k : ℕ) → i ≡ k → y ≡ get_or new k d =
    λ k e. subst (λ q. y ≡ get_or new q d) e (sym (get_or-insert_at xs i y d fit)) in
    let high : (k : ℕ) → i < k → get_or xs (k - 1) d ≡ get_or new k d =
    λ k over. subst (λ q. get_or xs (k - 1) d ≡ get_or new q d) {x = k - 1 + 1} (omega arith)
    (sym (get_or-insert_above xs i y d (k - 1) (omega arith) fit)) in
    elim (cases_order i a) [
      | inl at ↦
          subst (λ (u : X). R u (get_or new b d)) (here a at)
          (subst (R y) (high b (omega arith)) (after (b - 1) d (omega arith) (omega arith)))
      | inr apart ↦ elim apart [
        | inl over ↦
            subst (λ (u : X). R u (get_or new b d)) (high a over)
            (subst (R (get_or xs (a - 1) d)) (high b (omega arith))
            (pairs (a - 1) (b - 1) d (omega arith) (omega arith)))
        | inr below ↦
            subst (λ (u : X). R u (get_or new b d)) (low a below) (elim (cases_order i b) [
              | inl at ↦ subst (R (get_or xs a d)) (here b at) (before a d below)
              | inr apart' ↦ elim apart' [
                | inl over ↦
                    subst (R (get_or xs a d)) (high b over)
                    (pairs a (b - 1) d (omega arith) (omega arith))
                | inr below' ↦
                    subst (R (get_or xs a d)) (low b below') (pairs a b d lt (omega arith))
              ]
            ])
      ]
    ]
