-- What an answer says of numbers is true of the names that they stand for.
use Rattle.std.proofs.Common.{◌≡◌, ℕ, suc, ◌<◌, ◌-◌, false, List, ◌∷◌, arith, map, length, Option, Some, None, IfSome, slice_get, [], refl, option_map, sym, ap, ◌∙◌, subst}
use Rattle.std.specs.Prelude.{bytes_eq}
use Rattle.std.specs.List.{position}
use Rattle.std.specs.Ordering.{nat_cmp}
use Rattle.std.proofs.lemmas.Bool.{false≢true}
use Rattle.std.proofs.lemmas.List.Folds.{list_any_at}
use Rattle.std.proofs.lemmas.List.Quantifiers.{position-Some}
use Rattle.std.proofs.lemmas.Option.{same_Some, slice_get_within, get_or_from_slice_get}
use Rattle.redodb_names.specs.Names.{has}
use Rattle.redodb_names.specs.Support.Names.{AreNames}
use Rattle.redodb_model.specs.Names.{Text, texts, by_number, text_at, by_text}
use Rattle.redodb_model.specs.State.{Cell, State, TargetState, target_state}
use Rattle.redodb_model.specs.OutOfDate.{HasChangeRow, HasCreatedRow}
use Rattle.redodb_model.specs.Deps as model
use Rattle.redodb_model.specs.Deps.{AreDeps}
use Rattle.redodb_model.specs.Support.Deps.{AreDepsBelow, named_deps}
use Rattle.redodb_model.specs.Users as users
use Rattle.redodb_model.specs.Users.{AreUsers}
use Rattle.redodb_model.specs.Support.Users.{AreUsersBelow, IsUnused, named_users}
use Rattle.redodb_model.specs.Support.Renaming.{named_state, numbering}
use Rattle.redodb_model.specs.Support.Unknown.{IsUnknown}
use Rattle.redodb_model.specs.Why.{TellsWhy, end_of}
use Rattle.redodb_model.specs.Support.Why.{IsWhyBelow}
use Rattle.redodb_model.proofs.RecordsByName.{cell_at_name, value_at_name}
use Rattle.redodb_model.proofs.WhyByName.{why_below, tells_why_by_name, deps_by_name, unknown_by_name, unknown_without_number}
use Rattle.redodb_model.proofs.UsersByName.{users_by_name, unused_by_name, unused_without_number}
use Rattle.redodb_database.specs.Meaning.{why_of}
use Rattle.redodb_database.specs.declared.why.Why.{Why}
use Rattle.redodb_history.proofs.KnownNames.{all_members}
use Rattle.redodb_live.specs.Answers.{Standing}
use Rattle.redodb_live.specs.Support.Asked.{why_at}
use Rattle.redodb_live.specs.Support.Ordered.{AreSortedAgain}
use Rattle.redodb_live.specs.Support.Within.{IsStateWithin}
use Rattle.redodb_live.proofs.Answering.{renaming, number_is_strict, orders, alike}
use Rattle.redodb_live.proofs.Reordered.{listed_again}

-- the name of a list's last number is the end of the names
pub end_is_last : (name : ℕ → Text) (t : Text) (ns : List ℕ) (n : ℕ)
    → Some n ≡ slice_get ns (length ns - 1) → name n ≡ end_of t (map name ns)
end_is_last name t [] n e = absurd (cc)
end_is_last name t (m ∷ []) n e = ap name (same_Some n m e)
end_is_last name t (m ∷ k ∷ ns) n e =
    let place : length (m ∷ k ∷ ns) - 1 ≡ suc (length (k ∷ ns) - 1) = omega arith in
    end_is_last name (name m) (k ∷ ns) n (e ∙ ap (slice_get (m ∷ k ∷ ns)) place)

-- a text that isn't among the names has no number
no_number : (names : List Text) (name : Text) (at : Option ℕ) → position (bytes_eq name) names ≡ at
    → has names name ≡ false → at ≡ None
no_number names name None is out = refl
no_number names name (Some k) is out =
    let found = position-Some (bytes_eq name) names k [] is in
    absurd (false≢true (sym out ∙ list_any_at (bytes_eq name) names k [] found.0 found.1))

module _ (names : List Text) (are : AreNames names) (st : State ℕ)
    (within : IsStateWithin (length names) st)
  where
    abbrev here : State Text
    here = named_state (numbering names) st

    pub unknown_name : (name : Text) → has names name ≡ false → IsUnknown here name
    unknown_name name out =
        unknown_without_number (renaming names are) st name
        (no_number names name (position (bytes_eq name) names) refl out)

    pub unknown_number : (n : ℕ) (name : Text) → slice_get names n ≡ Some name → IsUnknown st n
        → IsUnknown here name
    unknown_number n name found unknown =
        subst (IsUnknown here) (get_or_from_slice_get names n name [] found)
        (unknown_by_name (renaming names are) st n (slice_get_within names n name found) unknown)

    pub unused_name : (name : Text) → has names name ≡ false → IsUnused here.records name
    unused_name name out =
        unused_without_number (renaming names are) st.records name
        (no_number names name (position (bytes_eq name) names) refl out)

    pub unused_number : (n : ℕ) (name : Text) → slice_get names n ≡ Some name
        → IsUnused st.records n → IsUnused here.records name
    unused_number n name found unused =
        subst (IsUnused here.records) (get_or_from_slice_get names n name [] found)
        (unused_by_name (renaming names are) st.records n (slice_get_within names n name found)
        unused)

    pub why_over_names : (n : ℕ) (name : Text) → n < length names → text_at names n ≡ name
        → (found : Option Why) → TellsWhy st.records n (option_map why_of found)
        → TellsWhy here.records name (option_map (why_at names) found)
    why_over_names n name below named None is_why =
        subst (λ t. TellsWhy here.records t None) named
        (tells_why_by_name (renaming names are) st.records within.records n below None is_why)
    why_over_names n name below named (Some why) is_why =
        subst (λ t. TellsWhy here.records t (Some (why_at names why))) named
        (tells_why_by_name (renaming names are) st.records within.records n below
        (Some (why_of why)) is_why)

    pub found_why_below : (n : ℕ) (found : Option Why)
        → TellsWhy st.records n (option_map why_of found)
        → IfSome found (λ why. IsWhyBelow (length names) (why_of why))
    found_why_below n None is_why = tt
    found_why_below n (Some why) is_why =
        why_below (renaming names are) st.records within.records n (why_of why) is_why

    pub sorted_deps : (n : ℕ) (deps : model.Deps ℕ) (change created : List ℕ)
        → AreDeps by_number st.records n deps
        → AreSortedAgain (by_text names).order deps.change change
        → AreSortedAgain (by_text names).order deps.created created
        → AreDeps (by_text names) st.records n
        (record { change = change; created = created; always = deps.always })
    sorted_deps n deps change created are_deps changes createds =
        let others = orders names are nat_cmp number_is_strict in
        record {
          change = listed_again (length names) nat_cmp (by_text names).order others
              {P = HasChangeRow st.records n} deps.change change
              (λ m row. (within.records.changes n m row).1) are_deps.change changes;
          created = listed_again (length names) nat_cmp (by_text names).order others
              {P = HasCreatedRow st.records n} deps.created created
              (λ m row. (within.records.createds n m row).1) are_deps.created createds;
          always = are_deps.always;
        }

    pub deps_below : (n : ℕ) (deps : model.Deps ℕ) → AreDeps (by_text names) st.records n deps
        → AreDepsBelow (length names) deps
    deps_below n deps are_deps = record {
      change = all_members (λ m. m < length names) deps.change
          (λ m there. (within.records.changes n m ((are_deps.change.1 m).0 there)).1);
      created = all_members (λ m. m < length names) deps.created
          (λ m there. (within.records.createds n m ((are_deps.created.1 m).0 there)).1);
    }

    pub deps_over_names : (n : ℕ) → n < length names → (deps : model.Deps ℕ)
        → AreDeps (by_text names) st.records n deps
        → AreDeps texts here.records (text_at names n) (named_deps (text_at names) deps)
    deps_over_names n below deps are_deps =
        deps_by_name (renaming names are) st.records within.records texts (by_text names).order
        (alike names are) n below deps are_deps

    pub sorted_users : (n : ℕ) (users : users.Users ℕ) (change created : List ℕ)
        → AreUsers by_number st.records n users
        → AreSortedAgain (by_text names).order users.change change
        → AreSortedAgain (by_text names).order users.created created
        → AreUsers (by_text names) st.records n
        (record { change = change; created = created })
    sorted_users n users change created are_users changes createds =
        let others = orders names are nat_cmp number_is_strict in
        record {
          change = listed_again (length names) nat_cmp (by_text names).order others
              {P = λ t. HasChangeRow st.records t n} users.change change
              (λ t row. (within.records.changes t n row).0) are_users.change changes;
          created = listed_again (length names) nat_cmp (by_text names).order others
              {P = λ t. HasCreatedRow st.records t n} users.created created
              (λ t row. (within.records.createds t n row).0) are_users.created createds;
        }

    pub users_below : (n : ℕ) (users : users.Users ℕ) → AreUsers (by_text names) st.records n users
        → AreUsersBelow (length names) users
    users_below n users are_users = record {
      change = all_members (λ m. m < length names) users.change
          (λ t there. (within.records.changes t n ((are_users.change.1 t).0 there)).0);
      created = all_members (λ m. m < length names) users.created
          (λ t there. (within.records.createds t n ((are_users.created.1 t).0 there)).0);
    }

    pub users_over_names : (n : ℕ) → n < length names → (users : users.Users ℕ)
        → AreUsers (by_text names) st.records n users
        → AreUsers texts here.records (text_at names n) (named_users (text_at names) users)
    users_over_names n below users are_users =
        users_by_name (renaming names are) st.records within.records texts (by_text names).order
        (alike names are) n below users are_users

    pub state_over_names : (n : ℕ) (name : Text) → n < length names → text_at names n ≡ name
        → (state : TargetState) (holder : Option ℕ) (file : Option Text)
        → state ≡ target_state st.records n → holder ≡ st.locks.holder n
        → file ≡ (st.records.cell n).file
        → Standing state holder file ≡ Standing (target_state here.records name)
        (here.locks.holder name) (here.records.cell name).file
    state_over_names n name below named state holder file is_state is_holder is_file =
        let cell : here.records.cell name ≡ st.records.cell n =
        ap here.records.cell (sym named) ∙ cell_at_name (renaming names are) st.records n below in
        let held : here.locks.holder name ≡ st.locks.holder n =
        ap here.locks.holder (sym named)
        ∙ value_at_name (renaming names are) None st.locks.holder n below in
        let same_state = is_state ∙ sym (ap (λ (c : Cell). c.state) cell) in
        let same_file = is_file ∙ sym (ap (λ (c : Cell). c.file) cell) in
        λ i. Standing (same_state i) ((is_holder ∙ sym held) i) (same_file i)
