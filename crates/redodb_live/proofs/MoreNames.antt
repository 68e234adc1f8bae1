-- Adding names does not change what is known of names.
use Rattle.std.proofs.Common.{◌≡◌, ℕ, ◌<◌, ◌≤◌, Bool, false, true, List, Option, Some, None, is_some, length, length-append, refl, sym, ap, ◌∙◌, inl, inr, arith}
use Rattle.std.proofs.Math.Path.{fun_ext}
use Rattle.std.proofs.lemmas.Bool.{cases_lt}
use Rattle.redodb_names.specs.Support.Names.{Extends}
use Rattle.redodb_model.specs.Names.{Text}
use Rattle.redodb_model.specs.State.{State, Mark, idle}
use Rattle.redodb_model.specs.Support.Renaming.{IsRenaming, value_at, named_state, numbering}
use Rattle.redodb_text.proofs.Added.{text_at-Extends}
use Rattle.redodb_live.specs.Support.Within.{IsStateWithin}

-- a mark that isn't there
no_mark : (o : Option Mark) (P : Type 0) → (is_some o ≡ true → P) → (P → ⊥) → o ≡ None
no_mark None P has none = refl
no_mark (Some mark) P has none = absurd (none (has refl))

no_row : (b : Bool) (P : Type 0) → (b ≡ true → P) → (P → ⊥) → b ≡ false
no_row false P has none = refl
no_row true P has none = absurd (none (has refl))

module _ (old new : List Text) (x : Extends old new) (law : IsRenaming (numbering old))
    (more : IsRenaming (numbering new))
  where
    -- an old name still has its number
    old_number : (t : Text) (k : ℕ) → (numbering new).number t ≡ Some k → k < length old
        → (numbering old).number t ≡ Some k
    old_number t k e below =
        ap (numbering old).number (sym (more.forth t k e) ∙ text_at-Extends old new k x below)
        ∙ law.back k below

    new_number : (t : Text) (j : ℕ) → (numbering old).number t ≡ Some j
        → (numbering new).number t ≡ Some j
    new_number t j g =
        let below : j < length old = law.below t j g in
        let within : j < length new = omega (arith, ap length x.is, length-append old x.more) in
        ap (numbering new).number (sym (law.forth t j g) ∙ sym (text_at-Extends old new j x below))
        ∙ more.back j within

    number_cases : {X : Type 0} (d : X) (f : ℕ → X) → ((k : ℕ) → length old ≤ k → f k ≡ d)
        → (t : Text) (a b : Option ℕ) → (numbering new).number t ≡ a → (numbering old).number t ≡ b
        → value_at d f a ≡ value_at d f b
    number_cases d f none t None None e g = refl
    number_cases d f none t None (Some j) e g = let there = new_number t j g in absurd cc
    number_cases d f none t (Some k) None e g = elim (cases_lt k (length old)) [
      | inl below ↦ let there = old_number t k e below in absurd cc
      | inr past ↦ none k past
    ]
    number_cases d f none t (Some k) (Some j) e g =
        ap (value_at d f) (sym e ∙ new_number t j g)

    value_kept : {X : Type 0} (d : X) (f : ℕ → X) → ((k : ℕ) → length old ≤ k → f k ≡ d)
        → (t : Text)
        → value_at d f ((numbering new).number t) ≡ value_at d f ((numbering old).number t)
    value_kept d f none t =
        number_cases d f none t ((numbering new).number t) ((numbering old).number t) refl refl

    -- one position in two lists of names
    pair_kept : {X : Type 0} (d : X) (f : ℕ → ℕ → X)
        → ((k m : ℕ) → length old ≤ k → f k m ≡ d) → ((k m : ℕ) → length old ≤ m → f k m ≡ d)
        → (t u : Text)
        → value_at {X = Text → X} (λ v. d) (λ k v. value_at d (f k) ((numbering new).number v))
        ((numbering new).number t) u
        ≡ value_at {X = Text → X} (λ v. d) (λ k v. value_at d (f k) ((numbering old).number v))
        ((numbering old).number t) u
    pair_kept {X = X} d f first second t u =
        let inner : (λ (k : ℕ) (v : Text). value_at d (f k) ((numbering new).number v))
        ≡ (λ (k : ℕ) (v : Text). value_at d (f k) ((numbering old).number v)) =
        fun_ext (λ k. fun_ext (λ v. value_kept d (f k) (second k) v)) in
        let past : (k : ℕ) → length old ≤ k
        → (λ (v : Text). value_at d (f k) ((numbering old).number v)) ≡ (λ (v : Text). d) =
        λ k above.
        fun_ext (λ v. at_nothing d (f k) (λ m. first k m above) ((numbering old).number v))
        in
        ap (λ (g : ℕ → Text → X). value_at {X = Text → X} (λ v. d) g ((numbering new).number t) u)
        inner
        ∙ ap (λ (row : Text → X). row u)
        (value_kept {X = Text → X} (λ v. d) (λ k v. value_at d (f k) ((numbering old).number v))
        past t)
      where
        at_nothing : {X : Type 0} (d : X) (f : ℕ → X) → ((m : ℕ) → f m ≡ d) → (o : Option ℕ)
            → value_at d f o ≡ d
        at_nothing d f none None = refl
        at_nothing d f none (Some m) = none m

    module _ (st : State ℕ) (within : IsStateWithin (length old) st) where
      pub named_state-Extends : named_state (numbering new) st ≡ named_state (numbering old) st
      named_state-Extends =
          let rows = st.records.rows in
          let cells = fun_ext (λ t. value_kept idle st.records.cell within.records.cells t) in
          let changes = fun_ext (λ t. fun_ext (λ u. pair_kept None rows.change
          (λ k m past. no_mark (rows.change k m) ((k < length old) × (m < length old))
          (within.records.changes k m) (λ h. absurd (omega arith)))
          (λ k m past. no_mark (rows.change k m) ((k < length old) × (m < length old))
          (within.records.changes k m) (λ h. absurd (omega arith))) t u)) in
          let createds = fun_ext (λ t. fun_ext (λ u. pair_kept false rows.created
          (λ k m past. no_row (rows.created k m) ((k < length old) × (m < length old))
          (within.records.createds k m) (λ h. absurd (omega arith)))
          (λ k m past. no_row (rows.created k m) ((k < length old) × (m < length old))
          (within.records.createds k m) (λ h. absurd (omega arith))) t u)) in
          let always = fun_ext (λ t. value_kept false rows.always within.always t) in
          let holders = fun_ext (λ t. value_kept None st.locks.holder within.holder t) in
          let grants = fun_ext (λ t. value_kept 0 st.locks.grants within.grants t) in
          λ i. record {
            records = record {
              cell = cells i;
              rows = record { change = changes i; created = createds i; always = always i };
            };
            locks = record { holder = holders i; grants = grants i };
          }

      pub IsStateWithin-Extends : IsStateWithin (length new) st
      IsStateWithin-Extends =
          let longer : length old ≤ length new =
          omega (arith, ap length x.is, length-append old x.more) in
          record {
            records = record {
              cells = λ k past. within.records.cells k (omega arith);
              changes = λ k m h. let b = within.records.changes k m h in (omega arith, omega arith);
              createds = λ k m h. let b = within.records.createds k m h in
                  (omega arith, omega arith);
            };
            always = λ k past. within.always k (omega arith);
            holder = λ k past. within.holder k (omega arith);
            grants = λ k past. within.grants k (omega arith);
          }
