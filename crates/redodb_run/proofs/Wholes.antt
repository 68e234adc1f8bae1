-- The session of a journal's lines.
use Rattle.std.proofs.Common.{◌≡◌, ℕ, List, [], ◌∷◌, ◌++◌, refl, ap, ◌∙◌, sym, inl, inr}
use Rattle.redodb_model.specs.Names.{Naming}
use Rattle.redodb_model.specs.Command.{Item}
use Rattle.redodb_model.specs.Placed.{PlacedLine}
use Rattle.redodb_model.specs.Journals.{IsJournalAfter, IsJournal}
use Rattle.redodb_history_laws.proofs.Exchange.{In}

module _ {N : Type 0} (naming : Naming N) (s : ℕ) where
  -- each line is the session's
  pub of_session : (script : List (Item N)) (before lines : List (PlacedLine N))
      → IsJournalAfter naming s script before lines → (line : PlacedLine N) → In line lines
      → line.session ≡ s
  of_session script before [] is line i = absurd i
  of_session script before (first ∷ lines) is line (inl e) =
      ap (λ (l : PlacedLine N). l.session) (sym e) ∙ is.0
  of_session script before (first ∷ lines) is line (inr i) =
      of_session script (before ++ first ∷ []) lines is.2 line i

  -- a session without a script has none
  pub no_lines : (lines : List (PlacedLine N)) → IsJournal naming s [] lines → lines ≡ []
  no_lines [] is = refl
  no_lines (line ∷ lines) is = absurd (let none = is.1 in cc)
