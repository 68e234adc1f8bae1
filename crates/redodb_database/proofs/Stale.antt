-- The stale ones of some names, sorted and each kept once.
use Rattle.std.proofs.Common.{◌≡◌, ◌↔◌, ℕ, ◌<◌, ◌+◌, Bool, cond, IsTrue, List, [], ◌∷◌, ◌++◌, length, get_or, take, sym, subst, inl, inr}
use Rattle.std.specs.List.{AllPairs, Contains}
use Rattle.redodb_model.specs.Names.{IsListed, by_number}
use Rattle.redodb_model.proofs.Listing.{one_more}
use Rattle.redodb_names.proofs.Places.{below_by_numbers}
use Rattle.redodb_names.proofs.Ranked.{pushed_due}

-- the next of the names is added if it has Q
pub members_more : (Q : ℕ → Type 0) (names : List ℕ) (k : ℕ) → k < length names
    → (from to : List ℕ) (due : Bool) → (IsTrue due ↔ Q (get_or names k 0))
    → to ≡ from ++ cond due (get_or names k 0 ∷ []) []
    → ((n : ℕ) → Contains from n ↔ (Contains (take k names) n × Q n))
    → (n : ℕ) → Contains to n ↔ (Contains (take (k + 1) names) n × Q n)
members_more Q names k in' from to due is added h n =
    let more = one_more names k 0 n in' in
    let pushed = pushed_due from (get_or names k 0) due n in (
      λ c. elim (pushed.0 (subst (λ (ns : List ℕ). Contains ns n) added c)) [
        | inl old ↦ (let was = (h n).0 old in (more.1 (inl was.0), was.1))
        | inr new ↦ (more.1 (inr new.1), subst Q (sym new.1) (is.0 new.0))
      ],
      λ p. subst (λ (ns : List ℕ). Contains ns n) (sym added) (pushed.1 (elim (more.0 p.0) [
        | inl earlier ↦ inl ((h n).1 (earlier, p.1))
        | inr here ↦ inr (is.1 (subst Q here p.1), here)
      ])),
    )

-- numbers that rise are listed, if they are those with P
pub listed_once : (P : ℕ → Type 0) (from to : List ℕ) → AllPairs (λ j k. j < k) to
    → ((n : ℕ) → Contains to n ↔ Contains from n) → ((n : ℕ) → Contains from n ↔ P n)
    → IsListed by_number P to
listed_once P from to rising same is = (
  λ i j d before in'.
      below_by_numbers (get_or to i d) (get_or to j d) (rising i j d before in'),
  λ n. (λ c. (is n).0 ((same n).0 c), λ p. (same n).1 ((is n).1 p)),
)
