-- The journals joined by hand have one joint order, or none.
use Rattle.std.proofs.Common.{◌≡◌, ℕ, List, [], ◌∷◌, ap, ◌∙◌, inl, inr, arith}
use Rattle.redodb_model.specs.Command.{Lock, Unlock}
use Rattle.redodb_model.specs.Reply.{Okay}
use Rattle.redodb_model.specs.Reply as replies
use Rattle.redodb_model.specs.Names.{Text, texts}
use Rattle.redodb_model.specs.Placed.{PlacedLine, Granted, Busy, Released}
use Rattle.redodb_model.specs.Journals.{IsJointOrder}
use Rattle.redodb_model.specs.Support.Merging.{placed_at, shared, first_journal, second_journal, two_journals, merging}
use Rattle.redodb_history_laws.proofs.TwoSessions.{Joins, who_goes, joined}

-- the lines of the two journals
abbrev lock : PlacedLine Text
lock = placed_at 0 0 (Lock shared) (replies.Granted 1) (Granted shared 1)

abbrev unlock : PlacedLine Text
unlock = placed_at 0 1 (Unlock shared) Okay (Released shared 1)

abbrev busy : ℕ → PlacedLine Text
busy g = placed_at 1 0 (Lock shared) (replies.Busy g) (Busy shared g)

abbrev lock_again : PlacedLine Text
lock_again = placed_at 1 1 (Lock shared) (replies.Granted 2) (Granted shared 2)

nothing_left : (before lines : List (PlacedLine Text)) → Joins before [] [] lines → lines ≡ []
nothing_left before lines joins = elim (who_goes before [] [] lines joins) [
  | inl done ↦ done.2
  | inr (inl first) ↦ absurd first
  | inr (inr second) ↦ absurd second
]

after_release : (lines : List (PlacedLine Text))
    → Joins (lock ∷ busy 1 ∷ unlock ∷ []) [] (lock_again ∷ []) lines → lines ≡ lock_again ∷ []
after_release lines joins = elim (who_goes _ [] (lock_again ∷ []) lines joins) [
  | inl done ↦ absurd (cc)
  | inr (inl first) ↦ absurd first
  | inr (inr second)
      ↦ second.1 ∙ ap (λ rest. lock_again ∷ rest) (nothing_left _ second.0 second.3)
]

after_busy : (lines : List (PlacedLine Text))
    → Joins (lock ∷ busy 1 ∷ []) (unlock ∷ []) (lock_again ∷ []) lines
    → lines ≡ unlock ∷ lock_again ∷ []
after_busy lines joins = elim (who_goes _ (unlock ∷ []) (lock_again ∷ []) lines joins) [
  | inl done ↦ absurd (cc)
  | inr (inl first) ↦ first.1 ∙ ap (λ rest. unlock ∷ rest) (after_release first.0 first.3)
  | inr (inr second) ↦ let wrong : ◌≡◌ {A = ℕ} 1 2 = second.2.1 in absurd (omega arith)
]

-- after the release a busy reply of one grant fits no count
busy_too_late : (g : ℕ) (lines : List (PlacedLine Text))
    → Joins (lock ∷ unlock ∷ []) [] (busy g ∷ lock_again ∷ []) lines → ⊥
busy_too_late g lines joins = elim (who_goes _ [] (busy g ∷ lock_again ∷ []) lines joins) [
  | inl done ↦ absurd (cc)
  | inr (inl first) ↦ absurd first
  | inr (inr second) ↦ let granted : ◌≡◌ {A = ℕ} 1 g = second.2.0 in
      let released : ◌≡◌ {A = ℕ} 2 g = second.2.1 in
      absurd (omega arith)
]

after_lock : (lines : List (PlacedLine Text))
    → Joins (lock ∷ []) (unlock ∷ []) (busy 1 ∷ lock_again ∷ []) lines
    → lines ≡ busy 1 ∷ unlock ∷ lock_again ∷ []
after_lock lines joins = elim (who_goes _ (unlock ∷ []) (busy 1 ∷ lock_again ∷ []) lines joins) [
  | inl done ↦ absurd (cc)
  | inr (inl first) ↦ absurd (busy_too_late 1 first.0 first.3)
  | inr (inr second) ↦ second.1 ∙ ap (λ rest. busy 1 ∷ rest) (after_busy second.0 second.3)
]

none_after_lock : (lines : List (PlacedLine Text))
    → Joins (lock ∷ []) (unlock ∷ []) (busy 3 ∷ lock_again ∷ []) lines → ⊥
none_after_lock lines joins =
    elim (who_goes _ (unlock ∷ []) (busy 3 ∷ lock_again ∷ []) lines joins) [
      | inl done ↦ absurd (cc)
      | inr (inl first) ↦ busy_too_late 3 first.0 first.3
      | inr (inr second) ↦ let wrong : ◌≡◌ {A = ℕ} 1 3 = second.2.0 in absurd (omega arith)
    ]

pub one_order : (lines : List (PlacedLine Text)) → IsJointOrder texts (two_journals 1) lines
    → lines ≡ merging
one_order lines joint =
    elim (who_goes [] first_journal (second_journal 1) lines (joined 1 lines joint)) [
      | inl done ↦ absurd (cc)
      | inr (inl first) ↦ first.1 ∙ ap (λ rest. lock ∷ rest) (after_lock first.0 first.3)
      | inr (inr second) ↦ let wrong : ◌≡◌ {A = ℕ} 0 1 = second.2.0 in absurd (omega arith)
    ]

pub no_order : (lines : List (PlacedLine Text)) → IsJointOrder texts (two_journals 3) lines → ⊥
no_order lines joint =
    elim (who_goes [] first_journal (second_journal 3) lines (joined 3 lines joint)) [
      | inl done ↦ absurd (cc)
      | inr (inl first) ↦ none_after_lock first.0 first.3
      | inr (inr second) ↦ let wrong : ◌≡◌ {A = ℕ} 0 3 = second.2.0 in absurd (omega arith)
    ]
