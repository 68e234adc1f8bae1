-- The places of numbers in ascending order, and the numbers that are there: with one more, and with
-- one less.
use Rattle.std.proofs.Common.{◌≡◌, ◌↔◌, ℕ, suc, ◌<◌, ◌+◌, Bool, true, false, cond, List, [], ◌∷◌, ◌++◌, length, get_or, set, take, drop, map, sym, ap, refl, ◌∙◌, subst, inl, inr, arith, Result, Ok, Err, IfOk, IfErr, length-append}
use Rattle.std.proofs.lemmas.Bool.{cases_lt, cases_order, cases_Bool, false≢true}
use Rattle.std.proofs.lemmas.List.{get_or_default, map-append, length-map, length-set, get_or-set_same, set_split, set-get_or, take-append-drop}
use Rattle.std.proofs.lemmas.List.Elements.{Contains-get_or, Contains-append_cases, Contains-append_left, Contains-append_right, filter-append}
use Rattle.std.proofs.lemmas.List.Kept.{AllPairs-filter}
use Rattle.std.specs.List.{Any, Contains, insert, filter}
use Rattle.std.specs.List.Sorted.{IsSearchInRange, IsBinarySearchResult}
use Rattle.std.specs.Ordering.{nat_cmp}
use Rattle.redodb_model.proofs.Members.{contains_first, contains_later, contains_cases, contains_none, contains_filter, pairs_map}
use Rattle.redodb_records.specs.Numbers.{Place, Rising, numbers_there}
use Rattle.redodb_records.specs.Support.Numbers.{InOrder, IsPlaceOf, IsGapFor, HasOneMore}
use Rattle.redodb_records.proofs.Ordered.{searched_by, set_in_order}

abbrev nowhere : Place
nowhere = record { number = 0; is_there = false }

-- a binary search by number ends at the number's place, or at the gap for it
pub searched : (places : List Place) → InOrder places → (x : ℕ) (r : Result ℕ ℕ)
    → IsSearchInRange r (length places)
    → IsBinarySearchResult (λ place. nat_cmp place.number x) places r
    → record { found : IfOk r (IsPlaceOf places x); absent : IfErr r (IsGapFor places x) }
searched places order x (Ok i) in_range equal =
    let found = searched_by (λ (p : Place). p.number) places order x (Ok i) in_range equal in
    record { found = record { within = found.0; numbered = found.1 }; absent = tt }
searched places order x (Err i) in_range parted =
    let gap = searched_by (λ (p : Place). p.number) places order x (Err i) in_range parted in
    record { found = tt; absent = record { within = gap.0; before = gap.1; after = gap.2 } }

-- a number with a gap has no place
pub no_place : (places : List Place) (x i : ℕ) → IsGapFor places x i
    → (place : Place) → Contains places place → place.number ≡ x → ⊥
no_place places x i gap place (k, within, is) same =
    let number : (get_or places k place).number ≡ x =
    ap (λ (p : Place). p.number) is ∙ same in
    elim (cases_lt k i) [
      | inl below ↦ omega (arith, gap.before k place below, number)
      | inr from ↦ omega (arith, gap.after k place from within, number)
    ]

-- a number has one place
pub one_place : (places : List Place) (x i : ℕ) (place d : Place) → InOrder places
    → IsPlaceOf places x i → Contains places place → place.number ≡ x → get_or places i d ≡ place
one_place places x i place d order at (k, within, is) same =
    let number : (get_or places k place).number ≡ x =
    ap (λ (p : Place). p.number) is ∙ same in
    let here : i ≡ k = elim (cases_order i k) [
      | inl e ↦ e
      | inr apart ↦ elim apart [
        | inl less ↦
            absurd (omega (arith, order i k place less within, at.numbered place, number))
        | inr more ↦
            absurd (omega (arith, order k i place more at.within, at.numbered place, number))
      ]
    ] in
    get_or_default places i d place at.within ∙ (ap (λ j. get_or places j place) here ∙ is)

-- each number that is there has a place
pub place_there : (places : List Place) (u : ℕ) → Contains (numbers_there places) u
    → (place : Place) × Contains places place × (place.number ≡ u) × (place.is_there ≡ true)
place_there [] u c = absurd (contains_none u c)
place_there (p ∷ ps) u c = elim (cases_Bool p.is_there) [
  | inl there ↦
      let here : Contains (p.number ∷ numbers_there ps) u =
      subst (λ b. Contains (map (λ (q : Place). q.number)
      (cond b (p ∷ filter (λ (q : Place). q.is_there) ps) (filter (λ (q : Place). q.is_there) ps)))
      u) there c in
      elim (contains_cases p.number (numbers_there ps) u here) [
        | inl e ↦ (p, contains_first p ps, e, there)
        | inr later ↦ let r = place_there ps u later in
            (r.0, contains_later p ps r.0 r.1, r.2, r.3)
      ]
  | inr empty ↦
      let later : Contains (numbers_there ps) u =
      subst (λ b. Contains (map (λ (q : Place). q.number)
      (cond b (p ∷ filter (λ (q : Place). q.is_there) ps) (filter (λ (q : Place). q.is_there) ps)))
      u) empty c in
      let r = place_there ps u later in (r.0, contains_later p ps r.0 r.1, r.2, r.3)
]

-- and the number of a place that isn't empty is there
pub there_with : (places : List Place) (place : Place) → Contains places place
    → place.is_there ≡ true → Contains (numbers_there places) place.number
there_with [] place c there = absurd (contains_none place c)
there_with (p ∷ ps) place c there = elim (contains_cases p ps place c) [
  | inl e ↦
      let on : p.is_there ≡ true = ap (λ (q : Place). q.is_there) e ∙ there in
      rw on (subst (Contains (p.number ∷ numbers_there ps)) (ap (λ (q : Place). q.number) e)
      (contains_first p.number (numbers_there ps)))
  | inr later ↦
      let rest = there_with ps place later there in
      elim (cases_Bool p.is_there) [
        | inl on ↦ rw on (contains_later p.number (numbers_there ps) place.number rest)
        | inr off ↦ rw off rest
      ]
]

-- the numbers of two lists of places
pub there-append : (ps qs : List Place)
    → numbers_there (ps ++ qs) ≡ numbers_there ps ++ numbers_there qs
there-append ps qs =
    ap (map (λ (p : Place). p.number)) (filter-append (λ (p : Place). p.is_there) ps qs)
    ∙ map-append (λ (p : Place). p.number) (filter (λ (p : Place). p.is_there) ps)
    (filter (λ (p : Place). p.is_there) qs)

-- with a place between them that isn't empty
between_there : (ps qs : List Place) (p : Place) → p.is_there ≡ true
    → numbers_there (ps ++ p ∷ qs) ≡ numbers_there ps ++ p.number ∷ numbers_there qs
between_there ps qs p there =
    there-append ps (p ∷ qs) ∙ ap (λ b. numbers_there ps ++ map (λ (q : Place). q.number)
    (cond b (p ∷ filter (λ (q : Place). q.is_there) qs) (filter (λ (q : Place). q.is_there) qs)))
    there

-- with an empty one
between_empty : (ps qs : List Place) (p : Place) → p.is_there ≡ false
    → numbers_there (ps ++ p ∷ qs) ≡ numbers_there ps ++ numbers_there qs
between_empty ps qs p empty =
    there-append ps (p ∷ qs) ∙ ap (λ b. numbers_there ps ++ map (λ (q : Place). q.number)
    (cond b (p ∷ filter (λ (q : Place). q.is_there) qs) (filter (λ (q : Place). q.is_there) qs)))
    empty

-- one more number
one_between : (xs ys : List ℕ) (x : ℕ) → HasOneMore x (xs ++ ys) (xs ++ x ∷ ys)
one_between xs ys x = record {
  each = λ u. (
    λ c. elim (Contains-append_cases xs (x ∷ ys) u c) [
      | inl left ↦ inl (Contains-append_left xs ys u left)
      | inr right ↦ elim (contains_cases x ys u right) [
        | inl e ↦ inr (sym e)
        | inr later ↦ inl (Contains-append_right xs ys u later)
      ]
    ],
    λ s. elim s [
      | inl old ↦ elim (Contains-append_cases xs ys u old) [
        | inl left ↦ Contains-append_left xs (x ∷ ys) u left
        | inr right ↦ Contains-append_right xs (x ∷ ys) u (contains_later x ys u right)
      ]
      | inr e ↦ Contains-append_right xs (x ∷ ys) u
          (subst (Contains (x ∷ ys)) (sym e) (contains_first x ys))
    ],
  );
  longer = omega (arith, length-append xs (x ∷ ys), length-append xs ys);
}

-- an empty place is filled
filled : (ps qs : List Place) (p q : Place) → p.is_there ≡ false → q.is_there ≡ true
    → HasOneMore q.number (numbers_there (ps ++ p ∷ qs)) (numbers_there (ps ++ q ∷ qs))
filled ps qs p q empty there =
    subst (λ xs. HasOneMore q.number xs (numbers_there (ps ++ q ∷ qs)))
    (sym (between_empty ps qs p empty))
    (subst (HasOneMore q.number (numbers_there ps ++ numbers_there qs))
    (sym (between_there ps qs q there))
    (one_between (numbers_there ps) (numbers_there qs) q.number))

-- the same at a place of a list
pub set_there : (ps : List Place) (i : ℕ) (p q : Place) → i < length ps
    → p.is_there ≡ false → q.is_there ≡ true
    → HasOneMore q.number (numbers_there (set ps i p)) (numbers_there (set ps i q))
set_there ps i p q within empty there =
    rw (set_split ps i p within, set_split ps i q within)
    (filled (take i ps) (drop (suc i) ps) p q empty there)

-- a new place is put in
pub inserted : (ps : List Place) (i : ℕ) (p : Place) → p.is_there ≡ true
    → HasOneMore p.number (numbers_there ps) (numbers_there (insert ps i p))
inserted ps i p there =
    subst (λ xs. HasOneMore p.number xs (numbers_there (insert ps i p)))
    (sym (there-append (take i ps) (drop i ps)) ∙ ap numbers_there (take-append-drop i ps))
    (subst (HasOneMore p.number (numbers_there (take i ps) ++ numbers_there (drop i ps)))
    (sym (between_there (take i ps) (drop i ps) p there))
    (one_between (numbers_there (take i ps)) (numbers_there (drop i ps)) p.number))

-- the numbers that are there rise
pub there_rises : (ps : List Place) → InOrder ps → Rising (numbers_there ps)
there_rises ps order =
    pairs_map (λ (p q : Place). p.number < q.number) (λ x y. x < y) (λ (p : Place). p.number)
    (filter (λ (p : Place). p.is_there) ps) (λ p q in_p in_q less. less)
    (AllPairs-filter (λ (p q : Place). p.number < q.number) (λ (p : Place). p.is_there) ps order)

-- the list without its empty places
abbrev pub without_empty : List Place → List Place
without_empty ps = filter (λ (p : Place). p.is_there) ps

pub kept_rises : (ps : List Place) → InOrder ps → InOrder (without_empty ps)
kept_rises ps order =
    AllPairs-filter (λ (p q : Place). p.number < q.number) (λ (p : Place). p.is_there) ps order

filter_twice : {X : Type 0} (test : X → Bool) (xs : List X)
    → filter test (filter test xs) ≡ filter test xs
filter_twice test [] = refl
filter_twice test (x ∷ xs) = elim (cases_Bool (test x)) [
  | inl on ↦ rw on (rw on (ap (λ ys. x ∷ ys) (filter_twice test xs)))
  | inr off ↦ rw off (filter_twice test xs)
]

pub kept_there : (ps : List Place) → numbers_there (without_empty ps) ≡ numbers_there ps
kept_there ps = ap (map (λ (p : Place). p.number)) (filter_twice (λ (p : Place). p.is_there) ps)

pub kept_length : (ps : List Place) → length (without_empty ps) ≡ length (numbers_there ps)
kept_length ps = sym (length-map (without_empty ps) (λ (p : Place). p.number))

-- a number with a gap has no place after the empty places went
pub none_kept : (ps : List Place) (x gap i : ℕ) → IsGapFor ps x gap
    → IsPlaceOf (without_empty ps) x i → ⊥
none_kept ps x gap i h at =
    let p : Place = get_or (without_empty ps) i nowhere in
    no_place ps x gap h p ((contains_filter (λ (q : Place). q.is_there) ps p).0
    (Contains-get_or (without_empty ps) i nowhere at.within)).0 (at.numbered nowhere)

-- the place of x, with x or empty
abbrev pub place_with : ℕ → Bool → Place
place_with x is_there = record { number = x; is_there = is_there }

-- what is at the place of a number that isn't there
stands_empty : (ps : List Place) (x i : ℕ) → IsPlaceOf ps x i
    → (Contains (numbers_there ps) x → ⊥) → (get_or ps i nowhere).is_there ≡ false
stands_empty ps x i at out =
    let p : Place = get_or ps i nowhere in
    elim (cases_Bool p.is_there) [
      | inl there ↦ absurd (out (subst (Contains (numbers_there ps)) (at.numbered nowhere)
          (there_with ps p (Contains-get_or ps i nowhere at.within) there)))
      | inr empty ↦ empty
    ]

-- a number comes back to its place
pub put_back : (ps : List Place) (x i : ℕ) → IsPlaceOf ps x i
    → (Contains (numbers_there ps) x → ⊥)
    → HasOneMore x (numbers_there ps) (numbers_there (set ps i (place_with x true)))
put_back ps x i at out =
    subst (λ qs. HasOneMore x (numbers_there qs) (numbers_there (set ps i (place_with x true))))
    (set-get_or ps i nowhere)
    (set_there ps i (get_or ps i nowhere) (place_with x true) at.within
    (stands_empty ps x i at out) refl)

-- the other direction
pub record HasOneLess (x : ℕ) (old new : List ℕ) : Type 0 where
  pub each : (u : ℕ) → Contains new u ↔ (Contains old u × (u ≡ x → ⊥))
  pub shorter : length new + 1 ≡ length old

one_less : (x : ℕ) (old new : List ℕ) → HasOneMore x new old → (Contains new x → ⊥)
    → HasOneLess x old new
one_less x old new more out = record {
  each = λ u. (
    λ c. ((more.each u).1 (inl c), λ e. out (subst (Contains new) e c)),
    λ h. elim ((more.each u).0 h.0) [ inl there ↦ there | inr is ↦ absurd (h.1 is) ],
  );
  shorter = sym more.longer;
}

-- a number leaves its place
pub left_empty : (ps : List Place) (x i : ℕ) → InOrder ps → IsPlaceOf ps x i
    → Contains (numbers_there ps) x
    → HasOneLess x (numbers_there ps) (numbers_there (set ps i (place_with x false)))
left_empty ps x i order at there =
    let qs : List Place = set ps i (place_with x false) in
    let own = place_there ps x there in
    let here : get_or ps i nowhere ≡ own.0 =
    one_place ps x i own.0 nowhere order at own.1 own.2 in
    let is_there : (get_or ps i nowhere).is_there ≡ true =
    ap (λ (p : Place). p.is_there) here ∙ own.3 in
    let more : HasOneMore (get_or ps i nowhere).number (numbers_there qs)
    (numbers_there (set ps i (get_or ps i nowhere))) =
    set_there ps i (place_with x false) (get_or ps i nowhere) at.within refl is_there in
    one_less x (numbers_there ps) (numbers_there qs)
    (subst (λ rs. HasOneMore x (numbers_there qs) (numbers_there rs)) (set-get_or ps i nowhere)
    (subst (λ y. HasOneMore y (numbers_there qs) (numbers_there (set ps i (get_or ps i nowhere))))
    (at.numbered nowhere) more))
    (λ c.
    let other = place_there qs x c in
    let stays : InOrder qs = set_in_order (λ (p : Place). p.number) ps order i (place_with x false) at.within
    (at.numbered (place_with x false)) in
    let stands : (d : Place) → get_or qs i d ≡ place_with x false =
    λ d. get_or-set_same ps i (place_with x false) d at.within in
    let still : IsPlaceOf qs x i = record {
      within = subst (λ m. i < m) (sym (length-set ps i (place_with x false))) at.within;
      numbered = λ d. ap (λ (p : Place). p.number) (stands d);
    } in
    let same : get_or qs i nowhere ≡ other.0 =
    one_place qs x i other.0 nowhere stays still other.1 other.2 in
    false≢true (ap (λ (p : Place). p.is_there) (sym (stands nowhere) ∙ same) ∙ other.3))

-- a number with a gap isn't there
pub not_in_gap : (ps : List Place) (x i : ℕ) → IsGapFor ps x i → Contains (numbers_there ps) x → ⊥
not_in_gap ps x i gap c = let own = place_there ps x c in no_place ps x i gap own.0 own.1 own.2

-- some number is there if some place isn't empty
pub some_there : (ps : List Place)
    → Any (λ (p : Place). p.is_there ≡ true) ps ↔ ((u : ℕ) × Contains (numbers_there ps) u)
some_there ps = (
  λ (k, p, within, at, there). (p.number, there_with ps p (k, within, at) there),
  λ (u, c). let own = place_there ps u c in
      (own.1.0, own.0, own.1.1, own.1.2, own.3),
)
