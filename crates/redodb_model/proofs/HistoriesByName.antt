-- A history over numbers is the history over their names.
use Rattle.std.proofs.Common.{◌≡◌, ◌↔◌, ℕ, false, List, [], ◌∷◌, Option, Some, None, refl, sym, ap, ◌∙◌, subst, map}
use Rattle.std.proofs.Math.Path.{fun_ext}
use Rattle.std.specs.List.{AllByRecursion}
use Rattle.std.specs.declared.cmp.Ordering.{Ordering}
use Rattle.redodb_model.specs.Names.{Naming, numbers}
use Rattle.redodb_model.specs.Support.Names.{IsNaming}
use Rattle.redodb_model.specs.State.{State, idle, empty}
use Rattle.redodb_model.specs.Step.{after}
use Rattle.redodb_model.specs.History.{Line, left_by, LegalFrom, Legal}
use Rattle.redodb_model.specs.Renaming.{named_line, IsBelow, IsLineBelow}
use Rattle.redodb_model.specs.Support.Renaming.{Renaming, IsRenaming, value_at, named_state, IsWithin, OrdersAlike}
use Rattle.redodb_model.proofs.RecordsByName.{default_at}
use Rattle.redodb_model.proofs.StepsByName.{after_by_name}
use Rattle.redodb_model.proofs.AnswersByName.{answers_by_name}
use Rattle.redodb_model.proofs.Within.{within_after, within_empty}

-- without rows, no row is read
no_row_at : {M X : Type 0} (number : M → Option ℕ) (d : X) (n : M) (o : Option ℕ)
    → value_at {X = M → X} (λ v. d) (λ k v. value_at d (λ m. d) (number v)) o n ≡ d
no_row_at number d n None = refl
no_row_at number d n (Some k) = sym (default_at d (number n))

-- the empty state has no names to change
pub empty_by_name : {M : Type 0} (to : Renaming M) → named_state to empty ≡ empty
empty_by_name to =
    let cells = fun_ext (λ t. sym (default_at idle (to.number t))) in
    let changes = fun_ext (λ t. fun_ext (λ n. no_row_at to.number None n (to.number t))) in
    let createds = fun_ext (λ t. fun_ext (λ n. no_row_at to.number false n (to.number t))) in
    let always = fun_ext (λ t. sym (default_at false (to.number t))) in
    let holders = fun_ext (λ t. sym (default_at None (to.number t))) in
    let grants = fun_ext (λ t. sym (default_at 0 (to.number t))) in
    λ i. record {
      records = record {
        cell = cells i;
        rows = record { change = changes i; created = createds i; always = always i };
      };
      locks = record { holder = holders i; grants = grants i };
    }

module _ {M : Type 0} {to : Renaming M} (law : IsRenaming to) (naming : Naming M)
    (good : IsNaming naming) (order : ℕ → ℕ → Ordering) where
  pub left_by_name : (st : State ℕ) (lines : List (Line ℕ))
      → AllByRecursion (λ line. IsBelow to.count line.command) lines
      → named_state to (left_by (numbers order) st lines)
      ≡ left_by naming (named_state to st) (map (named_line to.name) lines)
  left_by_name st [] below = refl
  left_by_name st (line ∷ lines) below =
      left_by_name (after (numbers order) st line.session line.command) lines below.1
      ∙ ap (λ next. left_by naming next (map (named_line to.name) lines))
      (after_by_name law naming good order st line.session line.command below.0)

  pub legal_from_by_name : (orders : OrdersAlike to naming order) (st : State ℕ)
      (lines : List (Line ℕ)) → IsWithin to.count st.records
      → AllByRecursion (IsLineBelow to.count) lines → LegalFrom (numbers order) st lines
      ↔ LegalFrom naming (named_state to st) (map (named_line to.name) lines)
  legal_from_by_name orders st [] within below = (λ h. h, λ h. h)
  legal_from_by_name orders st (line ∷ lines) within below =
      let here =
      answers_by_name law naming good order orders st within line.session line.command line.reply
      below.0.0 below.0.1 in
      let there =
      subst (λ next. LegalFrom (numbers order) (after (numbers order) st line.session line.command)
      lines ↔ LegalFrom naming next (map (named_line to.name) lines))
      (after_by_name law naming good order st line.session line.command below.0.0)
      (legal_from_by_name orders (after (numbers order) st line.session line.command) lines
      (within_after to.count order st line.session line.command within below.0.0) below.1) in
      (λ h. (here.0 h.0, there.0 h.1), λ h. (here.1 h.0, there.1 h.1))

  -- the same from the empty state
  pub state_by_name : (lines : List (Line ℕ))
      → AllByRecursion (λ line. IsBelow to.count line.command) lines
      → named_state to (left_by (numbers order) empty lines)
      ≡ left_by naming empty (map (named_line to.name) lines)
  state_by_name lines below =
      left_by_name empty lines below
      ∙ ap (λ st. left_by naming st (map (named_line to.name) lines)) (empty_by_name to)

  pub legal_by_name : (orders : OrdersAlike to naming order) (lines : List (Line ℕ))
      → AllByRecursion (IsLineBelow to.count) lines
      → Legal (numbers order) lines ↔ Legal naming (map (named_line to.name) lines)
  legal_by_name orders lines below =
      subst
      (λ st. Legal (numbers order) lines ↔ LegalFrom naming st (map (named_line to.name) lines))
      (empty_by_name to) (legal_from_by_name orders empty lines (within_empty to.count) below)
