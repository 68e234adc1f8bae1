-- The ranks of names, and names by their ranks.
use Rattle.std.proofs.Common.{◌≡◌, ◌==◌, ◌⊎◌, ◌↔◌, ◌∙◌, ℕ, ◌<◌, ◌≤◌, ◌+◌, Bool, true, false, cond, IsTrue, eqb, eqb-true, List, [], ◌∷◌, ◌++◌, length, map, get_or, set, take, refl, sym, ap, subst, inl, inr, arith}
use Rattle.std.specs.List.{All, AllPairs, Contains, dedup}
use Rattle.std.specs.List.Retain.{IsFiltered, DiffersFromLast}
use Rattle.std.specs.List.Sorted.{IsPermutation, IsSorted}
use Rattle.std.specs.Cmp.{nat_cmp_is}
use Rattle.std.specs.Ordering.{nat_cmp}
use Rattle.std.specs.declared.cmp.Ordering.TheVariants.{Less, Equal, Greater}
use Rattle.std.proofs.lemmas.Bool.{cases_eq, cases_order, false≢true, ne_eqb}
use Rattle.std.proofs.lemmas.List.{append-nil, get_or-map, get_or-set_other, get_or-set_same, length-map, map_more}
use Rattle.std.proofs.lemmas.List.Elements.{Contains-append_left, Contains-get_or, Contains-push, Contains-push_cases}
use Rattle.std.proofs.lemmas.List.Filters.{dedup_is}
use Rattle.std.proofs.lemmas.List.Kept.{AllPairs-from_increasing, Contains-dedup_nat, Contains-from_dedup}
use Rattle.std.proofs.lemmas.List.Sorted.{Contains-permutation, IsPermutation-sym}
use Rattle.std.proofs.lemmas.Map.Keys.{IsStrictlyIncreasing-dedup, IsDistinct-from_apart}
use Rattle.std.proofs.lemmas.Map.Steps.{length-le_from_distinct_below}
use Rattle.std.proofs.lemmas.Map.Views.{Contains-from_any}
use Rattle.redodb_model.specs.Names.{Ascending, by_number, numbers}
use Rattle.redodb_model.proofs.Listing.{each_below, one_more}
use Rattle.redodb_names.specs.Orders.{by_place, place}
use Rattle.redodb_names.specs.Support.Orders.{IsOrderOf, AreInOrder, ArePlaces}
use Rattle.redodb_names.proofs.Sorting.{AllPairs-map}

-- the first k numbers of the list have their ranks
abbrev pub HaveRanks : List ℕ → List ℕ → List ℕ → ℕ → Type 0
HaveRanks prefix sorted ranks k =
    (n : ℕ) → Contains prefix n → (get_or ranks n 0 < k) × (get_or sorted (get_or ranks n 0) 0 ≡ n)

-- the next number gets its rank
pub ranked_more : (sorted ranks : List ℕ) (k : ℕ) → k < length sorted
    → get_or sorted k 0 < length ranks → HaveRanks (take k sorted) sorted ranks k
    → HaveRanks (take (k + 1) sorted) sorted (set ranks (get_or sorted k 0) k) (k + 1)
ranked_more sorted ranks k in' below before n c =
    let m = get_or sorted k 0 in
    elim (cases_eq n m) [
      | inl e ↦
          let here : get_or (set ranks m k) n 0 ≡ k =
          ap (λ i. get_or (set ranks m k) i 0) e ∙ get_or-set_same ranks m k 0 below in
          (omega (arith, here), ap (λ i. get_or sorted i 0) here ∙ sym e)
      | inr other ↦
          let same : get_or (set ranks m k) n 0 ≡ get_or ranks n 0 =
          get_or-set_other ranks m n k 0 other in
          let was = before n (elim ((one_more sorted k 0 n in').0 c) [
            | inl earlier ↦ earlier
            | inr here ↦ absurd (other here)
          ]) in
          (omega (arith, same, was.0), ap (λ i. get_or sorted i 0) same ∙ was.1)
    ]

-- the places of those of the names that have Q
abbrev pub PlacesOf : List ℕ → (ℕ → Type 0) → List ℕ → (ℕ → Type 0) → Type 0
PlacesOf sorted Q names At = ArePlaces sorted (λ n. Contains names n × Q n) At

pub places_none : (sorted : List ℕ) (Q At : ℕ → Type 0) → ((k : ℕ) → At k → ⊥)
    → PlacesOf sorted Q [] At
places_none sorted Q At none = record {
  below = λ k at. absurd (none k at);
  from = λ k at. absurd (none k at);
  all = λ n p. absurd (omega (arith, p.0.1));
}

-- one more place is marked, if it is due
abbrev pub HasOneMore : (ℕ → Type 0) → (ℕ → Type 0) → ℕ → Bool → Type 0
HasOneMore At To k due = (j : ℕ) → To j ↔ (At j ⊎ (IsTrue due × (j ≡ k)))

-- the next name's place is marked if it has Q
pub places_more : (sorted : List ℕ) (Q : ℕ → Type 0) (names : List ℕ) (i : ℕ) → i < length names
    → (k : ℕ) (At To : ℕ → Type 0) (due : Bool) → k < length sorted
    → get_or sorted k 0 ≡ get_or names i 0 → (IsTrue due ↔ Q (get_or names i 0))
    → HasOneMore At To k due → PlacesOf sorted Q (take i names) At
    → PlacesOf sorted Q (take (i + 1) names) To
places_more sorted Q names i in' k At To due below at is more h = record {
  below = λ j c. elim ((more j).0 c) [
    | inl old ↦ h.below j old
    | inr e ↦ subst (λ m. m < length sorted) (sym e.1) below
  ];
  from = λ j c. elim ((more j).0 c) [
    | inl old ↦
        let was = h.from j old in
        ((one_more names i 0 (get_or sorted j 0) in').1 (inl was.0), was.1)
    | inr e ↦
        let here : get_or sorted j 0 ≡ get_or names i 0 =
        ap (λ m. get_or sorted m 0) e.1 ∙ at in
        ((one_more names i 0 (get_or sorted j 0) in').1 (inr here), subst Q (sym here) (is.0 e.0))
  ];
  all = λ n p. elim ((one_more names i 0 n in').0 p.0) [
    | inl earlier ↦
        let was = h.all n (earlier, p.1) in
        (was.0, (more was.0).1 (inl was.1), was.2)
    | inr here ↦ (k, (more k).1 (inr (is.1 (subst Q here p.1), refl)), at ∙ sym here)
  ];
}

-- a place that is pushed if it is due
pub pushed_due : (ranks : List ℕ) (k : ℕ) (due : Bool)
    → HasOneMore (Contains ranks) (Contains (ranks ++ cond due (k ∷ []) [])) k due
pushed_due ranks k true j = (
  λ c. elim (Contains-push_cases ranks k j c) [
    | inl old ↦ inl old
    | inr e ↦ inr (refl, sym e)
  ],
  λ s. elim s [
    | inl old ↦ Contains-append_left ranks (k ∷ []) j old
    | inr e ↦ subst (Contains (ranks ++ k ∷ [])) (sym e.1) (Contains-push ranks k)
  ],
)
pushed_due ranks k false j = (
  λ c. inl (subst (λ (ks : List ℕ). Contains ks j) (append-nil ranks) c),
  λ s. elim s [
    | inl old ↦ Contains-append_left ranks [] j old
    | inr e ↦ absurd (false≢true e.0)
  ],
)

-- the same places, of names with the same property
pub same_places : {sorted : List ℕ} {At : ℕ → Type 0} (P Q : ℕ → Type 0) → ((n : ℕ) → P n ↔ Q n)
    → ArePlaces sorted P At → ArePlaces sorted Q At
same_places {sorted = sorted} P Q same h = record {
  below = h.below;
  from = λ k at. (same (get_or sorted k 0)).0 (h.from k at);
  all = λ n q. h.all n ((same n).1 q);
}

-- numbers that were sorted, each kept once
module _ (from sorted to : List ℕ) (moved : IsPermutation from sorted)
    (filtered : IsFiltered (DiffersFromLast ◌==◌) [] sorted to)
  where
    kept : to ≡ dedup ◌==◌ sorted
    kept = dedup_is ◌==◌ sorted to filtered

    pub rise_once : IsSorted nat_cmp sorted → AllPairs (λ j k. j < k) to
    rise_once up =
        subst (AllPairs (λ j k. j < k)) (sym kept)
        (AllPairs-from_increasing (dedup ◌==◌ sorted) (IsStrictlyIncreasing-dedup sorted up))

    pub same_once : (k : ℕ) → Contains to k ↔ Contains from k
    same_once k = (
      λ c.
          let left = subst (λ (ks : List ℕ). Contains ks k) kept c in
          let there = Contains-from_dedup ◌==◌ sorted k left in
          Contains-permutation sorted from k (IsPermutation-sym from sorted moved) there,
      λ c.
          let there = Contains-permutation from sorted k moved c in
          subst (λ (ks : List ℕ). Contains ks k) (sym kept) (Contains-dedup_nat sorted k there),
    )

-- each place is one of the order
pub all_placed : {sorted : List ℕ} {P At : ℕ → Type 0} (rising : List ℕ) → ArePlaces sorted P At
    → ((k : ℕ) → Contains rising k ↔ At k) → All (λ k. k < length sorted) rising
all_placed rising h same i d in' =
    h.below (get_or rising i d) ((same (get_or rising i d)).0 (Contains-get_or rising i d in'))

-- the name at one more place
pub named_more : (sorted places names : List ℕ) (i : ℕ) → i < length places
    → names ≡ map (λ k. get_or sorted k 0) (take i places)
    → names ++ get_or sorted (get_or places i 0) 0 ∷ []
    ≡ map (λ k. get_or sorted k 0) (take (i + 1) places)
named_more sorted places names i in' named =
    let n = get_or sorted (get_or places i 0) 0 in
    ap (λ (ns : List ℕ). ns ++ n ∷ []) named
    ∙ sym (map_more (λ (k : ℕ). get_or sorted k 0) places i 0 in')

-- the names with P by their places in order
pub in_order_by_places : {sorted : List ℕ} {P At : ℕ → Type 0} (count : ℕ) (rising names : List ℕ)
    → IsOrderOf count sorted → ((n : ℕ) → P n → n < count) → ArePlaces sorted P At
    → AllPairs (λ j k. j < k) rising → ((k : ℕ) → Contains rising k ↔ At k)
    → names ≡ map (λ k. get_or sorted k 0) rising → AreInOrder sorted count P names
in_order_by_places {sorted = sorted} {P = P} count rising names order below h up same is =
    let name = λ (k : ℕ). get_or sorted k 0 in
    let placed : All (λ k. k < length sorted) rising =
    all_placed rising h same in
    let ascending : Ascending (numbers (by_place sorted)) (map name rising) =
    AllPairs-map name (λ m n. by_place sorted m n ≡ Less) rising
    (λ i j d before in'. order.0 (get_or rising i d) (get_or rising j d) 0
    (up i j d before in') (placed j d in')) in
    let has : (n : ℕ) → Contains (map name rising) n → P n = λ n c.
    let in' : c.0 < length rising = omega (arith, c.1, length-map rising name) in
    let k = get_or rising c.0 0 in
    let at : name k ≡ n =
    sym (get_or-map name rising c.0 0 n in') ∙ c.2 in
    subst P at (h.from k ((same k).0 (Contains-get_or rising c.0 0 in'))) in
    let all : (n : ℕ) → P n → Contains (map name rising) n = λ n p.
    let place = h.all n p in
    let c = (same place.0).1 place.1 in (
      c.0,
      omega (arith, c.1, length-map rising name),
      get_or-map name rising c.0 place.0 n c.1 ∙ ap name c.2 ∙ place.2,
    ) in
    subst (AreInOrder sorted count P) (sym is) (record {
      listed = (ascending, λ n. (has n, all n));
      below = each_below count (map name rising) (λ n c. below n (has n c));
    })

-- numbers that rise by their order
less_by_number : (m n : ℕ) → nat_cmp m n ≡ Less → m < n
less_by_number m n up = elim (cases_order m n) [
  | inl e ↦ let o : Equal ≡ nat_cmp m n = nat_cmp_is m n Equal e in absurd cc
  | inr h ↦ elim h [
    | inl less ↦ less
    | inr more ↦ let o : Greater ≡ nat_cmp m n = nat_cmp_is m n Greater more in absurd cc
  ]
]

pub rise_by_number : (ks : List ℕ) → Ascending by_number ks → AllPairs (λ j k. j < k) ks
rise_by_number ks up i j d before in' =
    less_by_number (get_or ks i d) (get_or ks j d) (up i j d before in')

-- no more numbers are in the order than there are names
pub sorted_few : (sorted : List ℕ) (count : ℕ) → IsOrderOf count sorted → length sorted ≤ count
unfolding by_place
sorted_few sorted count order =
    let differ : (i j : ℕ) (d : ℕ) → i < j → j < length sorted
    → eqb (get_or sorted i d) (get_or sorted j d) ≡ false = λ i j d before in'.
    let m : ℕ = get_or sorted i d in
    let n : ℕ = get_or sorted j d in
    ne_eqb m n (λ e.
    let less : place sorted m < place sorted n =
    less_by_number (place sorted m) (place sorted n) (order.0 i j d before in') in
    omega (arith, less, ap (place sorted) e)) in
    length-le_from_distinct_below sorted count (IsDistinct-from_apart eqb sorted differ)
    (λ q has. (order.1 q).0 (Contains-from_any eqb-true q sorted has))
