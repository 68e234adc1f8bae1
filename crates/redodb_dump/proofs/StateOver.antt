-- A database's state knows its names alone, and has its form if that of each name has.
use Rattle.std.proofs.Common.{◌≡◌, ℕ, ◌<◌, List, [], Option, Some, None, IfSome, length, refl, sym, ap, subst, arith}
use Rattle.std.specs.Prelude.{bytes_eq}
use Rattle.std.specs.List.{Contains, position}
use Rattle.std.proofs.lemmas.List.Elements.{Contains-get_or}
use Rattle.redodb_names.specs.Support.Names.{AreNames}
use Rattle.redodb_model.specs.Names.{Text, text_at}
use Rattle.redodb_model.specs.State.{Mark, State, Building, idle, target_state}
use Rattle.redodb_model.specs.Support.Renaming.{named_state, numbering, value_at}
use Rattle.redodb_model.proofs.WhyByName.{unknown_without_number}
use Rattle.redodb_model.proofs.UsersByName.{unused_without_number}
use Rattle.redodb_live.proofs.Answering.{renaming}
use Rattle.redodb_dump.specs.Dumps.{HasCellForm, HasMarkForm, HasSessions, IsStateOver, IsUnheardOf}
use Rattle.redodb_dump.specs.Support.Forms.{HasNameForm, HaveNameForms, HaveRowForms}

module _ (names : List Text) (are : AreNames names) (st : State ℕ) where
  abbrev here : State Text
  here = named_state (numbering names) st

  -- nothing is known of a text without a number
  unheard_of : (text : Text) → position (bytes_eq text) names ≡ None → IsUnheardOf here text
  unheard_of text none =
      let unused = unused_without_number (renaming names are) st.records text none in
      record {
        unknown = unknown_without_number (renaming names are) st text none;
        grants = ap (value_at 0 st.locks.grants) none;
        change = unused.change;
        created = unused.created;
      }

  -- a text is one of the names, or nothing is known of it
  by_number : (P : Text → Type 0) → ((n : ℕ) → n < length names → P (text_at names n))
      → ((text : Text) → IsUnheardOf here text → P text) → (text : Text) → P text
  by_number P named others text = by (position (bytes_eq text) names) refl
    where
      by : (at : Option ℕ) → position (bytes_eq text) names ≡ at → P text
      by None e = others text (unheard_of text e)
      by (Some k) e =
          subst P ((renaming names are).forth text k e)
          (named k ((renaming names are).below text k e))

  idle_form : HasCellForm idle
  idle_form = record { file = tt; builds = omega arith; done = tt; digest = tt }

  unheard_form : (text : Text) → IsUnheardOf here text → HasNameForm here text
  unheard_form text un = record {
    cell = subst HasCellForm (sym un.unknown.cell) idle_form;
    grants = omega (arith, un.grants);
  }

  no_mark : (o : Option Mark) → o ≡ None → IfSome o HasMarkForm
  no_mark o none = subst (λ (o : Option Mark). IfSome o HasMarkForm) (sym none) tt

  others : (text : Text) → (Contains names text → ⊥) → IsUnheardOf here text
  others text out =
      by_number (λ text. (Contains names text → ⊥) → IsUnheardOf here text)
      (λ n below out. absurd (out (Contains-get_or names n [] below)))
      (λ text un out. un) text out

  pub is_state_over : ((t : Text) (s : ℕ) → target_state here.records t ≡ Building s
      → here.locks.holder t ≡ Some s)
      → HasSessions here → HaveNameForms names here (length names)
      → HaveRowForms names here (length names)
      → IsStateOver names here
  is_state_over builders sessions forms rows =
      let name_form = by_number (HasNameForm here) forms unheard_form in
      record {
        are_names = are;
        others = others;
        builders = builders;
        cells = λ name. (name_form name).cell;
        marks = by_number
            (λ t. (name : Text) → IfSome (here.records.rows.change t name) HasMarkForm)
            (λ t below. by_number
            (λ name. IfSome (here.records.rows.change (text_at names t) name) HasMarkForm)
            (rows t below) (λ name un. no_mark _ (un.change (text_at names t))))
            (λ t un name. no_mark _ (un.unknown.change name));
        holders = sessions;
        grants = λ name. (name_form name).grants;
      }
