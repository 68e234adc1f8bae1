-- The names of a kind, taken from the list of all names in order.
use Rattle.std.proofs.Common.{◌≡◌, ◌↔◌, ℕ, ◌<◌, ◌≤◌, ◌+◌, Bool, true, false, cond, IsTrue, List, [], ◌∷◌, ◌++◌, length, get_or, take, refl, sym, ◌∙◌, subst, inl, inr, arith}
use Rattle.std.specs.List.{Contains}
use Rattle.std.specs.declared.cmp.Ordering.TheVariants.{Less}
use Rattle.std.proofs.lemmas.Bool.{false≢true}
use Rattle.std.proofs.lemmas.List.{append-nil, take_more, take_all, get_or_default, get_or-take, length-take-le}
use Rattle.std.proofs.lemmas.List.Elements.{Contains-get_or, Contains-push, Contains-push_cases, Contains-append_left}
use Rattle.std.proofs.lemmas.List.Quantifiers.{all_pairs_push}
use Rattle.redodb_model.specs.Names.{Naming, IsListed, Ascending, numbers}
use Rattle.redodb_model.specs.Renaming.{AllBelow}
use Rattle.redodb_model.proofs.Listing.{each_below}
use Rattle.redodb_names.specs.Orders.{by_place}
use Rattle.redodb_names.specs.Support.Orders.{IsOrderOf, AreInOrder}

-- a number of the list is below the count
pub number_below : {sorted items : List ℕ} {count : ℕ} (k d : ℕ) → IsOrderOf count sorted
    → items ≡ sorted → k < length items → get_or items k d < count
number_below {sorted} {items} {count} k d order is below =
    (order.1 (get_or items k d)).0
    (subst (λ (ns : List ℕ). Contains ns (get_or items k d)) is (Contains-get_or items k d below))

-- those of the first k items that have P, in order
pub record AreFirst (sorted : List ℕ) (P : ℕ → Type 0) (items : List ℕ) (k : ℕ)
    (names : List ℕ) : Type 0 where
  pub listed : IsListed (numbers (by_place sorted)) (λ n. Contains (take k items) n × P n) names

module _ (naming : Naming ℕ) (P : ℕ → Type 0) (sorted : List ℕ) (k d : ℕ)
    (below : k < length sorted) where
  -- what is among the first k comes before the next
  before_next : Ascending naming sorted → (n : ℕ) → Contains (take k sorted) n
      → naming.order n (get_or sorted k d) ≡ Less
  before_next up n (j, less, is) =
      let size : length (take k sorted) ≡ k = length-take-le k sorted (omega arith) in
      let at : get_or sorted j d ≡ n =
      sym (get_or-take k sorted j d (omega arith))
      ∙ (get_or_default (take k sorted) j d n less ∙ is) in
      subst (λ m. naming.order m (get_or sorted k d) ≡ Less) at (up j k d (omega arith) below)

  -- the next has P
  listed_with : Ascending naming sorted → (names : List ℕ) → P (get_or sorted k d)
      → IsListed naming (λ n. Contains (take k sorted) n × P n) names
      → IsListed naming (λ n. Contains (take k sorted ++ get_or sorted k d ∷ []) n × P n)
      (names ++ get_or sorted k d ∷ [])
  listed_with up names p h = (
    all_pairs_push (λ m n. naming.order m n ≡ Less) names (get_or sorted k d) h.0
        (λ i e in'. before_next up (get_or names i e)
        ((h.1 (get_or names i e)).0 (Contains-get_or names i e in')).0),
    λ n. (
      λ c. elim (Contains-push_cases names (get_or sorted k d) n c) [
        | inl old ↦ (let o = (h.1 n).0 old in
            (Contains-append_left (take k sorted) (get_or sorted k d ∷ []) n o.0, o.1))
        | inr e ↦ (
          subst (Contains (take k sorted ++ get_or sorted k d ∷ [])) e
              (Contains-push (take k sorted) (get_or sorted k d)),
          subst P e p,
        )
      ],
      λ x. elim (Contains-push_cases (take k sorted) (get_or sorted k d) n x.0) [
        | inl old ↦ Contains-append_left names (get_or sorted k d ∷ []) n ((h.1 n).1 (old, x.1))
        | inr e ↦ subst (Contains (names ++ get_or sorted k d ∷ [])) e
            (Contains-push names (get_or sorted k d))
      ],
    ),
  )

  -- the next doesn't have P
  listed_without : (names : List ℕ) → (P (get_or sorted k d) → ⊥)
      → IsListed naming (λ n. Contains (take k sorted) n × P n) names
      → IsListed naming (λ n. Contains (take k sorted ++ get_or sorted k d ∷ []) n × P n) names
  listed_without names p h = (
    h.0,
    λ n. (
      λ c. (let o = (h.1 n).0 c in
          (Contains-append_left (take k sorted) (get_or sorted k d ∷ []) n o.0, o.1)),
      λ x. elim (Contains-push_cases (take k sorted) (get_or sorted k d) n x.0) [
        | inl old ↦ (h.1 n).1 (old, x.1)
        | inr e ↦ absurd (p (subst P (sym e) x.1))
      ],
    ),
  )

  listed_more : Ascending naming sorted → (names : List ℕ) (due : Bool)
      → (IsTrue due ↔ P (get_or sorted k d))
      → IsListed naming (λ n. Contains (take k sorted) n × P n) names
      → IsListed naming (λ n. Contains (take k sorted ++ get_or sorted k d ∷ []) n × P n)
      (names ++ cond due (get_or sorted k d ∷ []) [])
  listed_more up names true is h = listed_with up names (is.0 refl) h
  listed_more up names false is h =
      subst (IsListed naming (λ n. Contains (take k sorted ++ get_or sorted k d ∷ []) n × P n))
      (sym (append-nil names)) (listed_without names (λ p. false≢true (is.1 p)) h)

-- the next item is added if it is due
pub listed_next : (naming : Naming ℕ) (P : ℕ → Type 0) (items : List ℕ) (k d : ℕ)
    → k < length items → Ascending naming items → (names new_names : List ℕ) (due : Bool)
    → (IsTrue due ↔ P (get_or items k d)) → new_names ≡ names ++ cond due (get_or items k d ∷ []) []
    → IsListed naming (λ n. Contains (take k items) n × P n) names
    → IsListed naming (λ n. Contains (take (k + 1) items) n × P n) new_names
listed_next naming P items k d below up names new_names due due_is added h =
    let more : take (k + 1) items ≡ take k items ++ get_or items k d ∷ [] =
    take_more items k d below in
    subst (λ (ns : List ℕ). IsListed naming (λ n. Contains ns n × P n) new_names) (sym more)
    (subst (IsListed naming (λ n. Contains (take k items ++ get_or items k d ∷ []) n × P n))
    (sym added) (listed_more naming P items k d below up names due due_is h))

pub first_more : {sorted items names new_names : List ℕ} {P : ℕ → Type 0} {due : Bool}
    (count k d : ℕ) → IsOrderOf count sorted → items ≡ sorted → k < length items
    → AreFirst sorted P items k names → (IsTrue due ↔ P (get_or items k d))
    → new_names ≡ names ++ cond due (get_or items k d ∷ []) []
    → AreFirst sorted P items (k + 1) new_names
first_more {sorted} {items} {names} {new_names} {P} {due} count k d order is below h due_is added =
    let naming : Naming ℕ = numbers (by_place sorted) in
    let up : Ascending naming items = subst (Ascending naming) (sym is) order.0 in
    record {
      listed = listed_next naming P items k d below up names new_names due due_is added h.listed;
    }

-- after all items, the list is that of the numbers with P, if each of these is an item
pub listed_at_end : (naming : Naming ℕ) (P : ℕ → Type 0) (items : List ℕ) (k : ℕ)
    → length items ≤ k → ((n : ℕ) → P n → Contains items n) → (names : List ℕ)
    → IsListed naming (λ n. Contains (take k items) n × P n) names → IsListed naming P names
listed_at_end naming P items k whole all names h = (
  h.0,
  λ n. (
    λ c. ((h.1 n).0 c).1,
    λ p. (h.1 n).1
        (subst (λ (ns : List ℕ). Contains ns n) (sym (take_all k items whole)) (all n p), p),
  ),
)

-- a list of numbers with P, if these are below the count
pub listed_below : (naming : Naming ℕ) (P : ℕ → Type 0) (count : ℕ) → ((n : ℕ) → P n → n < count)
    → (names : List ℕ) → IsListed naming P names → AllBelow count names
listed_below naming P count below names h =
    each_below count names (λ n c. below n ((h.1 n).0 c))

-- after all items, the list is that of the names with P
pub first_all : {sorted items names : List ℕ} {P : ℕ → Type 0} {k : ℕ} (count : ℕ)
    → IsOrderOf count sorted → items ≡ sorted → length items ≤ k → ((n : ℕ) → P n → n < count)
    → AreFirst sorted P items k names → AreInOrder sorted count P names
first_all {sorted} {items} {names} {P} {k} count order is whole below h =
    let all : (n : ℕ) → P n → Contains items n = λ n p.
    subst (λ (ns : List ℕ). Contains ns n) (sym is) ((order.1 n).1 (below n p)) in
    let naming : Naming ℕ = numbers (by_place sorted) in
    let listed = listed_at_end naming P items k whole all names h.listed in
    record { listed = listed; below = listed_below naming P count below names listed }

-- the names with P are those with Q
pub listed_alike : (naming : Naming ℕ) (names : List ℕ) (P Q : ℕ → Type 0)
    → ((n : ℕ) → P n ↔ Q n) → IsListed naming P names → IsListed naming Q names
listed_alike naming names P Q same h = (
  h.0,
  λ n. (λ c. (same n).0 ((h.1 n).0 c), λ q. (h.1 n).1 ((same n).1 q)),
)
