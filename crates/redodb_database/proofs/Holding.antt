-- The targets that a session holds.
use Rattle.std.proofs.Common.{◌≡◌, ◌∙◌, ◌↔◌, ℕ, ◌<◌, ◌+◌, IsTrue, IsSome, Bool, true, false, List, [], ◌∷◌, ◌++◌, Option, Some, None, length, get_or, take, refl, sym, ap, subst, inl, inr, arith}
use Rattle.std.specs.Cmp.{ranked}
use Rattle.std.specs.List.{Contains, cons_option, dedup, filter, filter_map}
use Rattle.std.specs.List.Sorted.{IsPermutation, IsStrictlyIncreasing}
use Rattle.std.specs.Option.{option_to_list}
use Rattle.std.specs.declared.cmp.Ordering.TheVariants.{Less}
use Rattle.std.proofs.lemmas.Bool.{cases_lt, eq-eqb, eqb-true, false≢true}
use Rattle.std.specs.Prelude.{nat_eq}
use Rattle.std.proofs.Math.ListN.{replicate}
use Rattle.std.proofs.lemmas.List.{get_or_past, take_more}
use Rattle.std.proofs.lemmas.List.Elements.{filter_map-append}
use Rattle.std.proofs.lemmas.List.Kept.{Contains-dedup_nat, Contains-from_dedup}
use Rattle.std.proofs.lemmas.List.Sorted.{Contains-permutation, IsPermutation-sym}
use Rattle.redodb_memo.specs.Bits.{IsSet}
use Rattle.redodb_model.specs.Names.{IsListed, by_number}
use Rattle.redodb_model.specs.Step.{is_held_by}
use Rattle.redodb_model.proofs.Members.{contains_first, contains_later, contains_cases, contains_none, contains_filter}
use Rattle.redodb_model.proofs.MorePlaces.{same_everywhere}
use Rattle.redodb_database.specs.Support.Kept.{AreHolderNames}
use Rattle.redodb_database.specs.Tables.{Tables, locks_of}

-- the session holds the target
abbrev pub HeldBy : Tables → ℕ → ℕ → Type 0
HeldBy tables s t = (locks_of tables).holder t ≡ Some s

pub held_is : (s : ℕ) (holder : Option ℕ) → IsTrue (is_held_by s holder) ↔ (holder ≡ Some s)
held_is s None = (λ t. absurd (false≢true t), λ e. cc)
held_is s (Some holder) = (
  λ t. ap Some (eqb-true holder s t),
  λ e. (let same : holder ≡ s = cc in eq-eqb holder s same),
)

-- only a number below the count is held
pub held_below : (tables : Tables) (s t : ℕ) → HeldBy tables s t → t < length tables.holders
held_below tables s t is = elim (cases_lt t (length tables.holders)) [
  | inl less ↦ less
  | inr past ↦
      let none : get_or tables.holders t None ≡ None = get_or_past tables.holders t None past in
      absurd (cc)
]

-- numbers in order rise
pub rising : {P : ℕ → Type 0} (ts : List ℕ) → IsListed by_number P ts → IsStrictlyIncreasing ts
rising ts listed k below =
    ranked (get_or ts k 0) (get_or ts (k + 1) 0) Less
    (sym (listed.0 k (k + 1) 0 (omega arith) below))

-- the set of the names that have a holder, at first and with more places
pub no_holders : (count : ℕ) (holders : List (Option ℕ)) (held : List Bool)
    → holders ≡ replicate count None → held ≡ replicate count false → AreHolderNames holders held
no_holders count holders held none empty n =
    let free : get_or holders n None ≡ None =
    ap (λ (hs : List (Option ℕ)). get_or hs n None) none ∙ same_everywhere count n None in
    let out : get_or held n false ≡ false =
    ap (λ (bs : List Bool). get_or bs n false) empty ∙ same_everywhere count n false in (
      λ is. absurd (false≢true (sym out ∙ is)),
      λ some. absurd (false≢true (subst IsSome free some)),
    )

pub same_holders : (old new : List (Option ℕ)) (was is : List Bool)
    → ((n : ℕ) → get_or new n None ≡ get_or old n None)
    → ((n : ℕ) → get_or is n false ≡ get_or was n false)
    → AreHolderNames old was → AreHolderNames new is
same_holders old new was is holders held right n =
    subst (λ (o : Option ℕ). IsSet is n ↔ IsSome o) (sym (holders n))
    (subst (λ (b : Bool). IsTrue b ↔ IsSome (get_or old n None)) (sym (held n)) (right n))

-- one more name whose holder is asked for
pub holder_more : (h : ℕ → Option ℕ) (xs : List ℕ) (k d : ℕ) → k < length xs
    → filter_map h (take (k + 1) xs)
    ≡ filter_map h (take k xs) ++ option_to_list (h (get_or xs k d))
holder_more h xs k d within =
    ap (filter_map h) (take_more xs k d within)
    ∙ filter_map-append h (take k xs) (get_or xs k d ∷ [])
    ∙ ap (λ (ys : List ℕ). filter_map h (take k xs) ++ ys) (at (h (get_or xs k d)))
  where
    at : (o : Option ℕ) → cons_option o [] ≡ option_to_list o
    at None = refl
    at (Some s) = refl

-- the holders of the members
pub contains_holder : (h : ℕ → Option ℕ) (xs : List ℕ) (s : ℕ)
    → Contains (filter_map h xs) s ↔ ((t : ℕ) × Contains xs t × (h t ≡ Some s))
contains_holder h [] s =
    (λ c. absurd (contains_none s c), λ some. absurd (contains_none some.0 some.1))
contains_holder h (x ∷ xs) s = at (contains_holder h xs s) (h x) refl
  where
    at : Contains (filter_map h xs) s ↔ ((t : ℕ) × Contains xs t × (h t ≡ Some s))
        → (o : Option ℕ) → h x ≡ o
        → Contains (cons_option o (filter_map h xs)) s
        ↔ ((t : ℕ) × Contains (x ∷ xs) t × (h t ≡ Some s))
    at rest None none = (
      λ c. (let m = rest.0 c in
          (m.0, contains_later x xs m.0 m.1, m.2)),
      λ m. elim (contains_cases x xs m.0 m.1) [
        | inl e ↦ (let here : h x ≡ Some s = subst (λ u. h u ≡ Some s) (sym e) m.2 in absurd (cc))
        | inr later ↦ rest.1 (m.0, later, m.2)
      ],
    )
    at rest (Some r) some = (
      λ c. elim (contains_cases r (filter_map h xs) s c) [
        | inl e ↦ (x, contains_first x xs, some ∙ ap Some e)
        | inr later ↦ (let m = rest.0 later in
            (m.0, contains_later x xs m.0 m.1, m.2))
      ],
      λ m. elim (contains_cases x xs m.0 m.1) [
        | inl e ↦ (let here : h x ≡ Some s = subst (λ u. h u ≡ Some s) (sym e) m.2 in
            let same : r ≡ s = cc in
            subst (Contains (r ∷ filter_map h xs)) same (contains_first r (filter_map h xs)))
        | inr later ↦ contains_later r (filter_map h xs) s
            (rest.1 (m.0, later, m.2))
      ],
    )

module _ (tables : Tables) (flags : List Bool) (names : List ℕ)
    (right : AreHolderNames tables.holders flags) (listed : IsListed by_number (IsSet flags) names)
  where
    -- what has a holder is listed
    is_listed : (s t : ℕ) → HeldBy tables s t → Contains names t
    is_listed s t held = (listed.1 t).1 ((right t).1 (subst IsSome (sym held) refl))

    -- those of the names that the session holds
    pub held_members : (s : ℕ) (held : List ℕ)
        → held ≡ filter (λ t. is_held_by s ((locks_of tables).holder t)) names
        → (t : ℕ) → Contains held t ↔ HeldBy tables s t
    held_members s held is t =
        let test = held_is s ((locks_of tables).holder t) in
        let both = contains_filter (λ u. is_held_by s ((locks_of tables).holder u)) names t in (
          λ c. test.0 (both.0 (subst (λ (xs : List ℕ). Contains xs t) is c)).1,
          λ e. subst (λ (xs : List ℕ). Contains xs t) (sym is)
              (both.1 (is_listed s t e, test.1 e)),
        )

    -- the holders of the names, sorted and without repeats
    pub holder_members : (found sorted sessions : List ℕ)
        → found ≡ filter_map (locks_of tables).holder names → IsPermutation found sorted
        → sessions ≡ dedup nat_eq sorted
        → (s : ℕ) → Contains sessions s ↔ ((t : ℕ) × HeldBy tables s t)
    holder_members found sorted sessions is moved once s =
        let both = contains_holder (locks_of tables).holder names s in (
          λ c. (let m = both.0 (subst (λ (xs : List ℕ). Contains xs s) is
              (Contains-permutation sorted found s (IsPermutation-sym found sorted moved)
              (Contains-from_dedup nat_eq sorted s
              (subst (λ (xs : List ℕ). Contains xs s) once c)))) in (m.0, m.2)),
          λ m. subst (λ (xs : List ℕ). Contains xs s) (sym once)
              (Contains-dedup_nat sorted s (Contains-permutation found sorted s moved
              (subst (λ (xs : List ℕ). Contains xs s) (sym is)
              (both.1 (m.0, is_listed s m.0 m.1, m.1))))),
        )
