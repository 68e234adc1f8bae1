-- One line more extends a history.
use Rattle.std.proofs.Common.{◌≡◌, List, [], ◌∷◌, ◌++◌, refl}
use Rattle.redodb_model.specs.Names.{Naming}
use Rattle.redodb_model.specs.State.{State}
use Rattle.redodb_model.specs.Step.{Answers, after}
use Rattle.redodb_model.specs.History.{Line, left_by, LegalFrom}

module _ {N : Type 0} (naming : Naming N) where
  pub left_by-append : (st : State N) (lines : List (Line N)) (more : List (Line N))
      → left_by naming st (lines ++ more) ≡ left_by naming (left_by naming st lines) more
  left_by-append st [] more = refl
  left_by-append st (line ∷ lines) more =
      left_by-append (after naming st line.session line.command) lines more

  pub legal_more : (st : State N) (lines : List (Line N)) (line : Line N)
      → LegalFrom naming st lines
      → Answers naming (left_by naming st lines) line.session line.command line.reply
      → LegalFrom naming st (lines ++ line ∷ [])
  legal_more st [] line h a = (a, tt)
  legal_more st (first ∷ lines) line h a =
      (h.0, legal_more (after naming st first.session first.command) lines line h.1 a)

  pub legal_both : (st : State N) (lines more : List (Line N)) → LegalFrom naming st lines
      → LegalFrom naming (left_by naming st lines) more → LegalFrom naming st (lines ++ more)
  legal_both st [] more h g = g
  legal_both st (line ∷ lines) more h g =
      (h.0, legal_both (after naming st line.session line.command) lines more h.1 g)

  pub legal_prefix : (st : State N) (lines : List (Line N)) (line : Line N)
      → LegalFrom naming st (lines ++ line ∷ []) → LegalFrom naming st lines
      × Answers naming (left_by naming st lines) line.session line.command line.reply
  legal_prefix st [] line h = (tt, h.0)
  legal_prefix st (first ∷ lines) line h =
      let rest = legal_prefix (after naming st first.session first.command) lines line h.1 in
      ((h.0, rest.0), rest.1)
