-- The numbers of texts, sorted by these.
use Rattle.std.proofs.Common.{◌≡◌, ◌⊎◌, ℕ, ◌<◌, ◌+◌, Bool, false, List, [], ◌∷◌, ◌++◌, map, length, get_or, refl, sym, ap, ◌∙◌, subst, inl, inr, arith, length-append, Bor}
use Rattle.std.specs.Prelude.{bytes_eq}
use Rattle.std.specs.List.{All, AllPairs, Contains, IsDistinct}
use Rattle.std.specs.List.Sorted.{IsPermutation, IsSorted}
use Rattle.std.specs.Cmp.{IsTotalOrder}
use Rattle.std.specs.Cmp.Lexicographic.{slice_cmp}
use Rattle.std.specs.Ordering.{nat_cmp, is_lt, is_eq, ordering_then, ordering_reverse}
use Rattle.std.specs.declared.cmp.Ordering.{Ordering}
use Rattle.std.specs.declared.cmp.Ordering.TheVariants.{Less, Equal, Greater}
use Rattle.std.proofs.lemmas.Bool.{cases_lt, false≢true}
use Rattle.std.proofs.lemmas.Cmp.{nat_cmp_total, nat_list_cmp_total, nat_list_eq_equiv, on_total, then_total}
use Rattle.std.proofs.lemmas.List.{length-map, get_or-map, get_or_append_left}
use Rattle.std.proofs.Math.Seq.{get_or-append_seam}
use Rattle.std.proofs.lemmas.List.Elements.{All-contains, All-map}
use Rattle.std.proofs.lemmas.List.Sorted.{sorted_far, ranks_by, All-permutation, IsPermutation-map, IsPermutation-sym, Contains-permutation, length_permutation}
use Rattle.std.proofs.lemmas.Map.Keys.{IsDistinct-from_apart, apart_from_distinct, IsDistinct-IsPermutation}
use Rattle.std.proofs.lemmas.Map.Text.{is_eq-slice_cmp}
use Rattle.redodb_model.specs.Renaming.{AllBelow}
use Rattle.redodb_model.proofs.Listing.{each_below as all_from}
use Rattle.redodb_model.specs.Names.{text_at}
use Rattle.redodb_names.specs.Support.Names.{AreNames}
use Rattle.redodb_names.specs.Support.Numbered.{AreNumbered}
use Rattle.redodb_names.specs.Orders.{AreSorted}

pub AreNumbered-none : (names : List (List ℕ)) → AreNumbered names 0 []
AreNumbered-none names = record {
  whole = refl;
  number = λ k d h. absurd (omega arith);
  text = λ k d h. absurd (omega arith);
}

-- a text and its number
abbrev pub Pair : Type 0
Pair = Bor (List ℕ) × ℕ

abbrev pub numbers_in : List Pair → List ℕ
numbers_in pairs = map (λ (p : Pair). p.1) pairs

-- what a list of pairs has at a place, with one more at the end
pushed : (pairs : List Pair) (p : Pair) (k : ℕ) (d : Pair) → k < length pairs + 1
    → ((k < length pairs) × (get_or (pairs ++ p ∷ []) k d ≡ get_or pairs k d))
    ⊎ ((k ≡ length pairs) × (get_or (pairs ++ p ∷ []) k d ≡ p))
pushed pairs p k d below =
    elim (cases_lt k (length pairs)) [
      | inl h ↦ inl (h, get_or_append_left pairs (p ∷ []) d k h)
      | inr h ↦
          let e : k ≡ length pairs = omega arith in
          inr (e, ap (λ (i : ℕ). get_or (pairs ++ p ∷ []) i d) e ∙ get_or-append_seam pairs p [] d)
    ]

pub AreNumbered-push : (names : List (List ℕ)) (n : ℕ) (pairs : List Pair) (p : Pair)
    → AreNumbered names n pairs → p.1 ≡ n → p.0.now ≡ text_at names n
    → AreNumbered names (n + 1) (pairs ++ p ∷ [])
AreNumbered-push names n pairs p h number text = record {
  whole = length-append pairs (p ∷ []) ∙ ap (λ (m : ℕ). m + 1) h.whole;
  number = λ k d below. elim (pushed pairs p k d (rw h.whole below)) [
    | inl w ↦ let lt : k < n = rw h.whole at w.0 in ap (λ (x : Pair). x.1) w.1 ∙ h.number k d lt
    | inr w ↦ ap (λ (x : Pair). x.1) w.1 ∙ number ∙ sym h.whole ∙ sym w.0
  ];
  text = λ k d below. elim (pushed pairs p k d (rw h.whole below)) [
    | inl w ↦ let lt : k < n = rw h.whole at w.0 in ap (λ (x : Pair). x.0.now) w.1 ∙ h.text k d lt
    | inr w ↦ ap (λ (x : Pair). x.0.now) w.1 ∙ text ∙ ap (text_at names) (sym (w.0 ∙ h.whole))
  ];
}

-- the order by which the pairs are sorted
abbrev pub pair_cmp : Pair → Pair → Ordering
pair_cmp p q = ordering_then (slice_cmp nat_cmp p.0.now q.0.now) (nat_cmp p.1 q.1)

pair_cmp_total : IsTotalOrder pair_cmp
pair_cmp_total =
    then_total (on_total (λ (p : Pair). p.0.now) nat_list_cmp_total)
    (on_total (λ (p : Pair). p.1) nat_cmp_total)

abbrev pub same_text : Pair → Pair → Bool
same_text p q = bytes_eq p.0.now q.0.now

-- texts that differ, and of which the second isn't below the first, rise
strictly : (o : Ordering) (a b : List ℕ) (m n : ℕ) → o ≡ slice_cmp nat_cmp b a
    → is_lt (ordering_then o (nat_cmp n m)) ≡ false → bytes_eq a b ≡ false
    → slice_cmp nat_cmp a b ≡ Less
strictly Less a b m n e h ne = absurd cc
strictly Equal a b m n e h ne =
    absurd (false≢true
    (sym ne ∙ nat_list_eq_equiv.symm a b ∙ sym (is_eq-slice_cmp b a) ∙ ap is_eq (sym e)))
strictly Greater a b m n e h ne = nat_list_cmp_total.antisymm a b ∙ ap ordering_reverse (sym e)

module _ {names : List (List ℕ)} (are : AreNames names) {from : List Pair}
    (h : AreNumbered names (length names) from) where
  texts_differ : IsDistinct same_text from
  texts_differ = IsDistinct-from_apart same_text from (λ i j d before below.
      let lt : j < length names = omega (arith, h.whole) in
      let less : i < length names = omega arith in
      ap (λ (t : List ℕ). bytes_eq t (get_or from j d).0.now) (h.text i d less)
      ∙ ap (bytes_eq (text_at names i)) (h.text j d lt)
      ∙ apart_from_distinct bytes_eq names i j [] are.distinct before lt)

  each_text : All (λ (p : Pair). p.0.now ≡ text_at names p.1) from
  each_text k d below =
      let lt : k < length names = omega (arith, h.whole) in
      h.text k d lt ∙ ap (text_at names) (sym (h.number k d lt))

  each_below : All (λ (n : ℕ). n < length names) (numbers_in from)
  each_below = All-map (λ (n : ℕ). n < length names) (λ (p : Pair). p.1) from (λ k d below.
      let lt : k < length names = omega (arith, h.whole) in
      subst (λ (n : ℕ). n < length names) (sym (h.number k d lt)) lt)

-- a number is in the list if a pair is at its place
number_there : (from : List Pair) (n : ℕ) → n < length from → ((d : Pair) → (get_or from n d).1 ≡ n)
    → Contains (numbers_in from) n
number_there [] n below is = absurd (omega arith)
number_there (p ∷ ps) n below is = (
  n,
  omega (arith, length-map (p ∷ ps) (λ (q : Pair). q.1)),
  get_or-map (λ (q : Pair). q.1) (p ∷ ps) n p n below ∙ is p,
)

pub AllPairs-map : {X Y : Type 0} (f : X → Y) (R : Y → Y → Type 0) (xs : List X)
    → AllPairs (λ x y. R (f x) (f y)) xs → AllPairs R (map f xs)
AllPairs-map f R [] all i j d before below = absurd (omega arith)
AllPairs-map f R (x ∷ xs) all i j d before below =
    let later : j < length (x ∷ xs) = omega (arith, length-map (x ∷ xs) f) in
    let first : i < length (x ∷ xs) = omega arith in
    subst (λ a. R a (get_or (map f (x ∷ xs)) j d)) (sym (get_or-map f (x ∷ xs) i x d first))
    (subst (R (f (get_or (x ∷ xs) i x))) (sym (get_or-map f (x ∷ xs) j x d later))
    (all i j x before later))

-- the texts of sorted pairs rise, if no two are the same
rise : (pairs : List Pair) → IsSorted pair_cmp pairs → IsDistinct same_text pairs
    → (i j : ℕ) (d : Pair) → i < j → j < length pairs
    → slice_cmp nat_cmp (get_or pairs i d).0.now (get_or pairs j d).0.now ≡ Less
rise pairs sorted differ i j d before below =
    let p : Pair = get_or pairs i d in
    let q : Pair = get_or pairs j d in
    let none_below : is_lt (pair_cmp q p) ≡ false =
    sorted_far (λ a b. is_lt (pair_cmp a b))
    (ranks_by pair_cmp_total (λ (r : Pair). r)) pairs sorted i j d (omega arith) below in
    strictly (slice_cmp nat_cmp q.0.now p.0.now) p.0.now q.0.now p.1 q.1 refl none_below
    (apart_from_distinct same_text pairs i j d differ before below)

-- the numbers of the sorted pairs are those of all names, in the order of their texts
pub AreSorted-from_pairs : (names : List (List ℕ)) (from to : List Pair) → AreNames names
    → AreNumbered names (length names) from → IsPermutation from to → IsSorted pair_cmp to
    → AreSorted names (numbers_in to)
AreSorted-from_pairs names from to are h moved sorted =
    let differ : IsDistinct same_text to =
    IsDistinct-IsPermutation same_text (λ p q. nat_list_eq_equiv.symm p.0.now q.0.now) from to moved
    (texts_differ are h) in
    let texts : All (λ (p : Pair). p.0.now ≡ text_at names p.1) to =
    All-permutation (λ (p : Pair). p.0.now ≡ text_at names p.1) from to moved (each_text are h) in
    let renumbered : IsPermutation (numbers_in from) (numbers_in to) =
    IsPermutation-map (λ (p : Pair). p.1) from to moved in
    let ascending : AllPairs
    (λ (p q : Pair). slice_cmp nat_cmp (text_at names p.1) (text_at names q.1) ≡ Less) to =
    λ i j d before below.
    let p : Pair = get_or to i d in
    let q : Pair = get_or to j d in
    ap (λ (t : List ℕ). slice_cmp nat_cmp t (text_at names q.1)) (sym (texts i d (omega arith)))
    ∙ ap (slice_cmp nat_cmp p.0.now) (sym (texts j d below))
    ∙ rise to sorted differ i j d before below
    in
    let all_below : (n : ℕ) → Contains (numbers_in to) n → n < length names = λ n there.
    All-contains (λ (m : ℕ). m < length names) (numbers_in from) n (each_below are h)
    (Contains-permutation (numbers_in to) (numbers_in from) n
    (IsPermutation-sym (numbers_in from) (numbers_in to) renumbered) there)
    in
    let all_there : (n : ℕ) → n < length names → Contains (numbers_in to) n = λ n below.
    Contains-permutation (numbers_in from) (numbers_in to) n renumbered
    (number_there from n (omega (arith, h.whole)) (λ d. h.number n d below))
    in
    record {
      listed = (
        AllPairs-map (λ (p : Pair). p.1)
            (λ m n. slice_cmp nat_cmp (text_at names m) (text_at names n) ≡ Less) to ascending,
        λ n. (all_below n, all_there n),
      );
      whole = length-map to (λ (p : Pair). p.1) ∙ length_permutation from to moved ∙ h.whole;
    }

pub sorted_below : {names : List (List ℕ)} {sorted : List ℕ} → AreSorted names sorted
    → AllBelow (length sorted) sorted
sorted_below {names = names} {sorted = sorted} are =
    let below : (n : ℕ) → Contains sorted n → n < length sorted =
    λ n c. subst (λ (m : ℕ). n < m) (sym are.whole) ((are.listed.1 n).0 c) in
    all_from (length sorted) sorted below
