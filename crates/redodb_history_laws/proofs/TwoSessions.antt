-- Joint orders of two sessions, line by line; and those of the journals joined by hand.
use Rattle.std.proofs.Common.{◌≡◌, ℕ, zero, suc, ◌⊎◌, List, [], ◌∷◌, ◌++◌, refl, sym, ◌∙◌, subst, inl, inr, arith}
use Rattle.redodb_model.specs.Names.{Text, texts}
use Rattle.redodb_model.specs.Placed.{PlacedLine, part_of, Follows, IsPlacedAfter}
use Rattle.redodb_model.specs.Journals.{IsJointOrder}
use Rattle.redodb_model.specs.Support.Merging.{first_journal, second_journal, two_journals}
use Rattle.redodb_history_laws.proofs.Own.{part_of-own, part_of-other}

-- after the lines before, these are placed; the first two sessions have the lists, and no other
-- session does anything
pub record Joins (before first second lines : List (PlacedLine Text)) : Type 0 where
  pub own_first : part_of 0 lines ≡ first
  pub own_second : part_of 1 lines ≡ second
  pub others : (s : ℕ) → part_of (suc (suc s)) lines ≡ []
  pub placed : IsPlacedAfter texts before lines

-- the first session's next line comes first
abbrev FirstGoes : (before first second lines : List (PlacedLine Text)) → Type 0
FirstGoes before [] second lines = ⊥
FirstGoes before (line ∷ first) second lines =
    (rest : List (PlacedLine Text)) × (lines ≡ line ∷ rest) × Follows texts before line.place
    × Joins (before ++ line ∷ []) first second rest

abbrev SecondGoes : (before first second lines : List (PlacedLine Text)) → Type 0
SecondGoes before first [] lines = ⊥
SecondGoes before first (line ∷ second) lines =
    (rest : List (PlacedLine Text)) × (lines ≡ line ∷ rest) × Follows texts before line.place
    × Joins (before ++ line ∷ []) first second rest

goes : (before first second : List (PlacedLine Text)) (line : PlacedLine Text)
    (rest : List (PlacedLine Text)) (s : ℕ)
    → line.session ≡ s → Joins before first second (line ∷ rest)
    → FirstGoes before first second (line ∷ rest) ⊎ SecondGoes before first second (line ∷ rest)
goes before first second line rest zero e joins =
    inl
    (subst (λ own. FirstGoes before own second (line ∷ rest))
    (sym (part_of-own 0 line rest e) ∙ joins.own_first) (
      rest,
      refl,
      joins.placed.1,
      record {
        own_first = refl;
        own_second = sym (part_of-other 1 line rest (λ q. omega arith)) ∙ joins.own_second;
        others =
            λ s. sym (part_of-other (suc (suc s)) line rest (λ q. omega arith))
            ∙ joins.others s;
        placed = joins.placed.2;
      },
    ))
goes before first second line rest (suc zero) e joins =
    inr
    (subst (λ own. SecondGoes before first own (line ∷ rest))
    (sym (part_of-own 1 line rest e) ∙ joins.own_second) (
      rest,
      refl,
      joins.placed.1,
      record {
        own_first = sym (part_of-other 0 line rest (λ q. omega arith)) ∙ joins.own_first;
        own_second = refl;
        others =
            λ s. sym (part_of-other (suc (suc s)) line rest (λ q. omega arith))
            ∙ joins.others s;
        placed = joins.placed.2;
      },
    ))
goes before first second line rest (suc (suc s)) e joins =
    let a = part_of-own (suc (suc s)) line rest e in
    let b = joins.others s in
    absurd (cc)

-- nothing is left, or the next line of one of the two comes first
pub who_goes : (before first second lines : List (PlacedLine Text))
    → Joins before first second lines
    → ((first ≡ []) × (second ≡ []) × (lines ≡ []))
    ⊎ (FirstGoes before first second lines ⊎ SecondGoes before first second lines)
who_goes before first second [] joins =
    inl (sym joins.own_first, sym joins.own_second, refl)
who_goes before first second (line ∷ rest) joins =
    inr (goes before first second line rest line.session refl joins)

pub joined : (g : ℕ) (lines : List (PlacedLine Text)) → IsJointOrder texts (two_journals g) lines
    → Joins [] first_journal (second_journal g) lines
joined g lines joint = record {
  own_first = joint.0 0;
  own_second = joint.0 1;
  others = λ s. joint.0 (suc (suc s));
  placed = joint.1;
}
