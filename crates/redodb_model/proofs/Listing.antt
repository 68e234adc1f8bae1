-- Lists of numbers: one that grows by its greatest, bounds, and prefixes.
use Rattle.std.proofs.Common.{◌≡◌, ◌⊎◌, ◌↔◌, ℕ, ◌<◌, ◌≤◌, ◌+◌, List, [], ◌∷◌, ◌++◌, length, get_or, take, Bool, true, false, cond, IsTrue, refl, subst, sym, inl, inr, arith}
use Rattle.std.proofs.lemmas.Bool.{cases_eq, cases_lt, false≢true}
use Rattle.std.proofs.lemmas.List.{append-nil, take_all, take_more}
use Rattle.std.proofs.lemmas.List.Quantifiers.{all_pairs_push}
use Rattle.std.proofs.lemmas.List.Elements.{Contains-get_or, Contains-push, Contains-push_cases, Contains-append_left, All-contains, All-from_recursion}
use Rattle.std.specs.List.{Contains}
use Rattle.std.specs.Cmp.{nat_cmp_is}
use Rattle.std.specs.Ordering.{nat_cmp}
use Rattle.std.specs.declared.cmp.Ordering.TheVariants.{Less}
use Rattle.redodb_model.specs.Names.{IsListed, by_number}
use Rattle.redodb_model.specs.Renaming.{AllBelow}
use Rattle.redodb_model.proofs.Members.{contains_first, contains_later, contains_cases, contains_none}

-- the next number has P
pub listed_with : (P : ℕ → Type 0) (k : ℕ) (ts : List ℕ) → P k
    → IsListed by_number (λ t. (t < k) × P t) ts
    → IsListed by_number (λ t. (t < k + 1) × P t) (ts ++ k ∷ [])
listed_with P k ts p h = (
  all_pairs_push (λ x y. nat_cmp x y ≡ Less) ts k h.0 (λ i d in'.
      sym (nat_cmp_is (get_or ts i d) k Less
      ((h.1 (get_or ts i d)).0 (Contains-get_or ts i d in')).0)),
  λ t. (
    λ c. elim (Contains-push_cases ts k t c) [
      | inl old ↦ (let o = (h.1 t).0 old in (omega (arith, o.0), o.1))
      | inr e ↦ (omega (arith, e), subst P e p)
    ],
    λ x. elim (cases_lt t k) [
      | inl less ↦ Contains-append_left ts (k ∷ []) t ((h.1 t).1 (less, x.1))
      | inr last ↦ (let e : k ≡ t = omega (arith, x.0, last) in
          subst (Contains (ts ++ k ∷ [])) e (Contains-push ts k))
    ],
  ),
)

-- the next number doesn't have P
listed_without : (P : ℕ → Type 0) (k : ℕ) (ts : List ℕ) → (P k → ⊥)
    → IsListed by_number (λ t. (t < k) × P t) ts
    → IsListed by_number (λ t. (t < k + 1) × P t) ts
listed_without P k ts p h = (
  h.0,
  λ t. (
    λ c. (let o = (h.1 t).0 c in (omega (arith, o.0), o.1)),
    λ x. elim (cases_lt t k) [
      | inl less ↦ (h.1 t).1 (less, x.1)
      | inr last ↦ (let e : t ≡ k = omega (arith, x.0, last) in absurd (p (subst P e x.1)))
    ],
  ),
)

-- the next number enters if it has P
pub listed_more : (P : ℕ → Type 0) (k : ℕ) (ts : List ℕ) (due : Bool)
    → (IsTrue due ↔ P k) → IsListed by_number (λ t. (t < k) × P t) ts
    → IsListed by_number (λ t. (t < k + 1) × P t) (ts ++ cond due (k ∷ []) [])
listed_more P k ts true is h = listed_with P k ts (is.0 refl) h
listed_more P k ts false is h =
    subst (IsListed by_number (λ t. (t < k + 1) × P t)) (sym (append-nil ts))
    (listed_without P k ts (λ p. false≢true (is.1 p)) h)

-- each number with P is below the bound
pub listed_all : (P : ℕ → Type 0) (k : ℕ) (ts : List ℕ)
    → ((t : ℕ) → P t → t < k) → IsListed by_number (λ t. (t < k) × P t) ts
    → IsListed by_number P ts
listed_all P k ts below h = (h.0, λ t. (λ c. ((h.1 t).0 c).1, λ p. (h.1 t).1 (below t p, p)))

-- each of the list is below the bound
pub each_below : (n : ℕ) (ts : List ℕ) → ((t : ℕ) → Contains ts t → t < n) → AllBelow n ts
each_below n [] h = tt
each_below n (t ∷ ts) h =
    (h t (contains_first t ts), each_below n ts (λ u c. h u (contains_later t ts u c)))

pub below_in : (n : ℕ) (ts : List ℕ) (t : ℕ) → AllBelow n ts → Contains ts t → t < n
below_in n ts t all = All-contains (λ u. u < n) ts t (All-from_recursion (λ u. u < n) ts all)

-- a number is on a list or isn't
pub listed_or_not : (ts : List ℕ) (t : ℕ) → Contains ts t ⊎ (Contains ts t → ⊥)
listed_or_not [] t = inr (contains_none t)
listed_or_not (u ∷ us) t = elim (cases_eq u t) [
  | inl e ↦ inl (subst (Contains (u ∷ us)) e (contains_first u us))
  | inr other ↦ elim (listed_or_not us t) [
    | inl later ↦ inl (contains_later u us t later)
    | inr not ↦ inr (λ c. elim (contains_cases u us t c) [
      | inl e ↦ other e
      | inr later ↦ not later
    ])
  ]
]

-- one more name of a list
pub one_more : (ts : List ℕ) (k d u : ℕ) → k < length ts
    → Contains (take (k + 1) ts) u ↔ (Contains (take k ts) u ⊎ (u ≡ get_or ts k d))
one_more ts k d u in' =
    let prefix = take k ts in
    let t = get_or ts k d in
    let e : take (k + 1) ts ≡ prefix ++ t ∷ [] = take_more ts k d in' in (
      λ h. elim (Contains-push_cases prefix t u (subst (λ (xs : List ℕ). Contains xs u) e h)) [
        | inl old ↦ inl old
        | inr here ↦ inr (sym here)
      ],
      λ s. subst (λ (xs : List ℕ). Contains xs u) (sym e) (elim s [
        | inl old ↦ Contains-append_left prefix (t ∷ []) u old
        | inr here ↦ subst (Contains (prefix ++ t ∷ [])) (sym here) (Contains-push prefix t)
      ]),
    )

-- what is true of a prefix that is as long as the list is true of the list
pub at_take_all : (P : List ℕ → Type 0) (ts : List ℕ) (k : ℕ) → length ts ≤ k → P (take k ts) → P ts
at_take_all P ts k end = subst P (take_all k ts end)

-- each name of a list of numbers below n is below m, which is n
pub below_at : (n m : ℕ) (ts : List ℕ) (k d : ℕ) → AllBelow n ts → k < length ts → m ≡ n
    → get_or ts k d < m
below_at n m ts k d all in' same =
    let below : get_or ts k d < n = All-from_recursion (λ t. t < n) ts all k d in' in
    omega arith
