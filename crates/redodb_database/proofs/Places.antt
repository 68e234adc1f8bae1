-- The numbers that are there, place by place.
use Rattle.std.proofs.Common.{◌≡◌, ◌⊎◌, ◌↔◌, ℕ, ◌<◌, ◌+◌, Bool, cond, IsTrue, Some, None, List, [], ◌∷◌, ◌++◌, length, get_or, take, sym, ap, ◌∙◌, subst, inl, inr}
use Rattle.std.proofs.lemmas.Bool.{cases_Bool}
use Rattle.std.proofs.lemmas.List.{take_more}
use Rattle.std.proofs.lemmas.List.Elements.{Contains-append_cases, Contains-append_left, Contains-append_right}
use Rattle.std.specs.List.{Contains}
use Rattle.redodb_model.specs.Renaming.{AllBelow}
use Rattle.redodb_model.proofs.Listing.{below_in}
use Rattle.redodb_model.proofs.Members.{contains_first, contains_cases, contains_none}
use Rattle.redodb_records.specs.Numbers.{Place, numbers_there}
use Rattle.redodb_records.proofs.Places.{there-append, place_there, there_with}
use Rattle.redodb_memo.specs.NameSet.{Marked, Enters}
use Rattle.redodb_memo.proofs.Marking.{enters_then}

-- with one place more
pub one_place_more : (places : List Place) (k : ℕ) (place : Place) → k < length places
    → place ≡ get_or places k place
    → numbers_there (take (k + 1) places)
    ≡ numbers_there (take k places) ++ numbers_there (place ∷ [])
one_place_more places k place below is =
    ap numbers_there (take_more places k place below)
    ∙ there-append (take k places) (get_or places k place ∷ [])
    ∙ ap (λ (p : Place). numbers_there (take k places) ++ numbers_there (p ∷ [])) (sym is)

-- the number of a place, if it is there
abbrev pub IsNumberOf : Place → ℕ → Type 0
IsNumberOf p u = IsTrue p.is_there × (u ≡ p.number)

number_alone : (p : Place) (u : ℕ) → Contains (numbers_there (p ∷ [])) u ↔ IsNumberOf p u
number_alone p u = (
  λ c. let own = place_there (p ∷ []) u c in elim (contains_cases p [] own.0 own.1) [
    | inl e ↦ (
      ap (λ (q : Place). q.is_there) e ∙ own.3,
      sym (ap (λ (q : Place). q.number) e ∙ own.2),
    )
    | inr none ↦ absurd (contains_none own.0 none)
  ],
  λ h. subst (Contains (numbers_there (p ∷ []))) (sym h.1)
      (there_with (p ∷ []) p (contains_first p []) h.0),
)

-- one more place
number_more : (places : List Place) (k : ℕ) (p : Place) → k < length places
    → p ≡ get_or places k p → (u : ℕ)
    → Contains (numbers_there (take (k + 1) places)) u
    ↔ (Contains (numbers_there (take k places)) u ⊎ IsNumberOf p u)
number_more places k p within at u =
    let e = one_place_more places k p within at in (
      λ c. elim (Contains-append_cases (numbers_there (take k places)) (numbers_there (p ∷ [])) u
          (subst (λ (xs : List ℕ). Contains xs u) e c)) [
            | inl before ↦ inl before
            | inr here ↦ inr ((number_alone p u).0 here)
          ],
      λ s. subst (λ (xs : List ℕ). Contains xs u) (sym e) (elim s [
        | inl before ↦ Contains-append_left (numbers_there (take k places))
            (numbers_there (p ∷ [])) u before
        | inr here ↦ Contains-append_right (numbers_there (take k places))
            (numbers_there (p ∷ [])) u ((number_alone p u).1 here)
      ]),
    )

-- the numbers of one more place enter
pub enters_place : {a b c : Marked} (P : ℕ → Type 0) (places : List Place) (k : ℕ) (p : Place)
    → k < length places → p ≡ get_or places k p
    → Enters (λ u. P u × Contains (numbers_there (take k places)) u) a b
    → Enters (λ u. P u × IsTrue p.is_there × (u ≡ p.number)) b c
    → Enters (λ u. P u × Contains (numbers_there (take (k + 1) places)) u) a c
enters_place P places k p within at f g =
    enters_then (λ u. P u × Contains (numbers_there (take (k + 1) places)) u) (λ u. (
      λ h. elim ((number_more places k p within at u).0 h.1) [
        | inl before ↦ inl (h.0, before)
        | inr here ↦ inr (h.0, here.0, here.1)
      ],
      λ s. elim s [
        | inl before ↦ (before.0, (number_more places k p within at u).1 (inl before.1))
        | inr here ↦ (here.0, (number_more places k p within at u).1 (inr (here.1, here.2)))
      ],
    )) f g

-- the number of a place of the list is below the bound
pub place_below : (n m : ℕ) (places : List Place) (k : ℕ) (p : Place)
    → AllBelow n (numbers_there places) → k < length places → p ≡ get_or places k p → m ≡ n
    → IsTrue p.is_there → p.number < m
place_below n m places k p below within at same there =
    let c = there_with places p (k, within, sym at) there in
    subst (λ j. p.number < j) (sym same) (below_in n (numbers_there places) p.number below c)

-- a number that is told is there
pub number_told : (p : Place) (t : ℕ) → Some t ≡ cond p.is_there (Some p.number) None
    → IsNumberOf p t
number_told p t told = elim (cases_Bool p.is_there) [
  | inl there ↦ let e = rw there at told in (there, cc)
  | inr empty ↦ let e = rw empty at told in cc
]

-- the number of a place enters if it is due
pub enters_number : {a b : Marked} (P : ℕ → Type 0) (p : Place) (t : ℕ) (due : Bool)
    → IsNumberOf p t → (IsTrue due ↔ P t) → Enters (λ u. IsTrue due × (u ≡ t)) a b
    → Enters (λ u. P u × IsTrue p.is_there × (u ≡ p.number)) a b
enters_number P p t due own is f = record {
  grown = f.grown;
  each = λ u. (
    λ on. elim ((f.each u).0 on) [
      | inl old ↦ inl old
      | inr h ↦ inr (subst P (sym h.1) (is.0 h.0), own.0, h.1 ∙ own.1)
    ],
    λ s. (f.each u).1 (elim s [
      | inl old ↦ inl old
      | inr h ↦ let e : u ≡ t = h.2 ∙ sym own.1 in inr (is.1 (subst P e h.0), e)
    ]),
  );
}
