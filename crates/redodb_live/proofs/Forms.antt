-- What is answered about a name has the form that its line determines.
use Rattle.std.proofs.Common.{◌≡◌, ℕ, zero, suc, ◌<◌, true, List, [], ◌∷◌, map, length, Option, Some, None, IfSome, option_map, arith}
use Rattle.std.proofs.lemmas.Bool.{eqb-true}
use Rattle.std.proofs.lemmas.List.{length-map}
use Rattle.std.proofs.lemmas.List.Elements.{All-contains, All-from_recursion}
use Rattle.std.proofs.lemmas.Map.Steps.{length-le_from_distinct_below}
use Rattle.std.proofs.lemmas.Map.Views.{Contains-from_any}
use Rattle.redodb_names.specs.Names.{is_name, AreAllNames}
use Rattle.redodb_names.specs.Support.Names.{AreNames}
use Rattle.redodb_model.specs.Names.{Text, Ascending, text_at, by_text}
use Rattle.redodb_model.specs.Deps as model
use Rattle.redodb_model.specs.Deps.{AreDeps}
use Rattle.redodb_model.specs.Support.Deps.{named_deps}
use Rattle.redodb_model.specs.Users as users
use Rattle.redodb_model.specs.Users.{AreUsers}
use Rattle.redodb_model.specs.Support.Users.{named_users}
use Rattle.redodb_model.specs.Renaming.{AllBelow}
use Rattle.redodb_model.specs.State.{State}
use Rattle.redodb_model.specs.Why.{Reason, Appeared, Changed}
use Rattle.redodb_model.specs.Support.Why.{IsReasonBelow, IsWhyBelow, named_reason}
use Rattle.redodb_database.specs.Meaning.{why_of}
use Rattle.redodb_database.specs.declared.why.Why.{Why}
use Rattle.redodb_text.specs.declared.inquiries.Inquiry.{Inquiry}
use Rattle.redodb_live.specs.Answers.{Answer, IsAnswer, Rows, Uses, answer_line, inquiry_of}
use Rattle.redodb_live.specs.Support.AnswerForms.{AnswersInForm, AreCountedNames, HasAnswerForm, HasReasonForm, HasWhyForm}
use Rattle.redodb_live.specs.Support.Asked.{why_at}
use Rattle.redodb_live.specs.Support.Within.{IsStateWithin}
use Rattle.redodb_live.proofs.Asking.{deps_below, users_below}
use Rattle.redodb_live.proofs.Ending.{text_is_strict}
use Rattle.redodb_live.proofs.Reordered.{ascending_once}

is_name_at : (names : List Text) (k : ℕ) → AreAllNames names → k < length names
    → is_name (text_at names k) ≡ true
is_name_at [] k each below = absurd (omega (arith, below))
is_name_at (n ∷ names) zero each below = each.0
is_name_at (n ∷ names) (suc k) each below = is_name_at names k each.1 (omega (arith, below))

module _ (names : List Text) (are : AreNames names) where
  named_are_names : (ks : List ℕ) → AllBelow (length names) ks
      → AreAllNames (map (text_at names) ks)
  named_are_names [] below = tt
  named_are_names (k ∷ ks) below =
      (is_name_at names k are.each below.0, named_are_names ks below.1)

  reason_form : (reason : Reason ℕ) → IsReasonBelow (length names) reason
      → HasReasonForm (named_reason (text_at names) reason)
  reason_form (Appeared n) below = is_name_at names n are.each below
  reason_form (Changed n) below = is_name_at names n are.each below
  reason_form reason below = tt

  pub why_form : (found : Option Why)
      → IfSome found (λ why. IsWhyBelow (length names) (why_of why))
      → IfSome (option_map (why_at names) found) HasWhyForm
  why_form None below = tt
  why_form (Some why) below = (
    named_are_names (why_of why).names below.names,
    reason_form (why_of why).reason below.reason,
  )

  -- as many numbers as are listed are below the count of names
  counted_form : (ks : List ℕ) → AllBelow (length names) ks → Ascending (by_text names) ks
      → AreCountedNames (map (text_at names) ks)
  counted_form ks below rises =
      let once = ascending_once (by_text names).order (text_is_strict names) ks rises in
      let few = length-le_from_distinct_below ks (length names) once
      (λ k there. All-contains (λ n. n < length names) ks k
      (All-from_recursion (λ n. n < length names) ks below)
      (Contains-from_any eqb-true k ks there)) in
      (named_are_names ks below, omega (arith, few, are.few, length-map ks (text_at names)))

  pub deps_form : (st : State ℕ) → IsStateWithin (length names) st
      → (n : ℕ) (deps : model.Deps ℕ) → AreDeps (by_text names) st.records n deps
      → HasAnswerForm (Rows (named_deps (text_at names) deps))
  deps_form st within n deps are_deps =
      let below = deps_below names are st within n deps are_deps in (
        counted_form deps.change below.change are_deps.change.0,
        counted_form deps.created below.created are_deps.created.0,
      )

  pub users_form : (st : State ℕ) → IsStateWithin (length names) st
      → (n : ℕ) (users : users.Users ℕ) → AreUsers (by_text names) st.records n users
      → HasAnswerForm (Uses (named_users (text_at names) users))
  users_form st within n users are_users =
      let below = users_below names are st within n users are_users in (
        counted_form users.change below.change are_users.change.0,
        counted_form users.created below.created are_users.created.0,
      )

pub line_in_form : (st : State Text) (session : ℕ) (inquiry : Inquiry) (name line : Text)
    (answer : Answer) → inquiry_of answer ≡ inquiry → IsAnswer st name answer
    → HasAnswerForm answer → line ≡ answer_line session name answer
    → AnswersInForm st session inquiry name line
line_in_form st session inquiry name line answer asked is form e = record {
  is = record { answer = answer; asked = asked; is = is; line_is = e };
  form = form;
}
