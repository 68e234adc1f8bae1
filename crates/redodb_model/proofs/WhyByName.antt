-- The reason and the rows of a number are those of its name.
use Rattle.std.proofs.Common.{◌≡◌, ℕ, ◌<◌, Bool, List, [], ◌∷◌, Option, Some, None, is_some, false, refl, sym, ap, ◌∙◌, subst, map, option_map, arith}
use Rattle.std.proofs.Math.Path.{fun_ext}
use Rattle.std.proofs.lemmas.Bool.{false≢true}
use Rattle.std.proofs.lemmas.List.{length-map}
use Rattle.std.specs.declared.cmp.Ordering.{Ordering}
use Rattle.redodb_model.specs.Names.{Naming, numbers}
use Rattle.redodb_model.specs.State.{Records, Cell, Mark, State, idle, is_building}
use Rattle.redodb_model.specs.OutOfDate.{HasReason, HasChangeRow, HasCreatedRow, Depends, Chain, OutOfDate}
use Rattle.redodb_model.specs.Renaming.{AllBelow}
use Rattle.redodb_model.specs.Support.Names.{IsNaming}
use Rattle.redodb_model.specs.Deps.{Deps, AreDeps}
use Rattle.redodb_model.specs.Support.Deps.{named_deps}
use Rattle.redodb_model.specs.Support.Renaming.{Renaming, IsRenaming, OrdersAlike, value_at, named_records, named_state, IsWithin}
use Rattle.redodb_model.specs.Support.Unknown.{IsUnknown}
use Rattle.redodb_model.specs.Why.{Reason, Building, Failed, Edited, Always, Appeared, Changed, IsReason, Why, Explains, TellsWhy, end_of}
use Rattle.redodb_model.specs.Support.Why.{IsReasonBelow, IsWhyBelow, named_reason, named_why}
use Rattle.redodb_model.proofs.RecordsByName.{default_at, number_where, row_at_name, value_at_name, cell_at_name, state_at_name, file_at_name, mark_at_name, change_at_names, created_at_names, chain_to_names, chain_from_names, out_from_name}
use Rattle.redodb_model.proofs.RepliesByName.{Carries, listed_forth}
use Rattle.redodb_model.proofs.UpToDate.{idle_up_to_date, nothing_listed}

end_by_name : {M : Type 0} (name : ℕ → M) (k : ℕ) (ns : List ℕ)
    → end_of (name k) (map name ns) ≡ name (end_of k ns)
end_by_name name k [] = refl
end_by_name name k (n ∷ ns) = end_by_name name n ns

end_below : (count k : ℕ) (ns : List ℕ) → k < count → AllBelow count ns → end_of k ns < count
end_below count k [] here below = here
end_below count k (n ∷ ns) here below = end_below count n ns below.0 below.1

module _ {M : Type 0} {to : Renaming M} (law : IsRenaming to) (r : Records ℕ)
    (within : IsWithin to.count r)
  where
    chain_below : (k : ℕ) (ns : List ℕ) → Chain (Depends r) (HasReason r) k ns
        → AllBelow to.count ns
    chain_below k [] chain = tt
    chain_below k (n ∷ ns) ((is, has), rest) = ((within.changes k n has).1, chain_below n ns rest)

    reason_below : (k : ℕ) (reason : Reason ℕ) → IsReason r k reason
        → IsReasonBelow to.count reason
    reason_below k (Appeared n) (built, row, file) = (within.createds k n row).1
    reason_below k (Changed n) (built, (mark, row, other)) =
        (within.changes k n (ap is_some row)).1
    reason_below k reason is = tt

    pub why_below : (k : ℕ) (why : Why ℕ) → Explains r k why → IsWhyBelow to.count why
    why_below k why explains = record {
      names = chain_below k why.names explains.chain;
      reason = reason_below (end_of k why.names) why.reason explains.reason;
    }

    reason_by_name : (k : ℕ) → k < to.count → (reason : Reason ℕ) → IsReason r k reason
        → IsReason (named_records to r) (to.name k) (named_reason to.name reason)
    reason_by_name k below Building is = ap is_building (state_at_name law r k below) ∙ is
    reason_by_name k below Failed is = state_at_name law r k below ∙ is
    reason_by_name k below Edited (built, edited) = (
      state_at_name law r k below ∙ built,
      λ e. edited (sym (ap (λ (c : Cell). c.file) (cell_at_name law r k below)) ∙ e
          ∙ ap (λ (c : Cell). c.done) (cell_at_name law r k below)),
    )
    reason_by_name k below Always (built, always) = (
      state_at_name law r k below ∙ built,
      value_at_name law false r.rows.always k below ∙ always,
    )
    reason_by_name k below (Appeared n) (built, row, file) =
        let both = within.createds k n row in (
          state_at_name law r k below ∙ built,
          created_at_names law r k n both.0 both.1 ∙ row,
          file_at_name law r n both.1 ∙ file,
        )
    reason_by_name k below (Changed n) (built, (mark, row, other)) =
        let both = within.changes k n (ap is_some row) in (
          state_at_name law r k below ∙ built,
          (
            mark,
            change_at_names law r k n both.0 both.1 ∙ row,
            λ e. other (e ∙ mark_at_name law r n both.1),
          ),
        )

    explains_by_name : (k : ℕ) → k < to.count → (why : Why ℕ) → Explains r k why
        → Explains (named_records to r) (to.name k) (named_why to.name why)
    explains_by_name k below why explains =
        let ns = why.names in
        let end = end_below to.count k ns below (chain_below k ns explains.chain) in
        record {
          chain = chain_to_names law r within k ns below explains.chain;
          shortest = λ ts chain.
              let (ms, there, same) = chain_from_names law r within ts k below chain in
              omega (arith, length-map ns to.name, explains.shortest ms there, same);
          reason = subst
              (λ t. IsReason (named_records to r) t (named_reason to.name why.reason))
              (sym (end_by_name to.name k ns))
              (reason_by_name (end_of k ns) end why.reason explains.reason);
        }

    pub tells_why_by_name : (k : ℕ) → k < to.count → (found : Option (Why ℕ)) → TellsWhy r k found
        → TellsWhy (named_records to r) (to.name k) (option_map (named_why to.name) found)
    tells_why_by_name k below None clean = λ out. clean (out_from_name law r within k below out)
    tells_why_by_name k below (Some why) explains = explains_by_name k below why explains

    change_carries : (k : ℕ) → k < to.count
        → Carries to (HasChangeRow r k) (HasChangeRow (named_records to r) (to.name k))
    change_carries k below = record {
      numbered = λ t row.
          let (n, number, is) =
          number_where to.number is_some None (r.rows.change k) t (to.number t) refl refl
          (sym (ap is_some (row_at_name law None r.rows.change k t below)) ∙ row) in
          (n, number);
      below = λ n row. (within.changes k n row).1;
      forth = λ n there row. ap is_some (change_at_names law r k n below there) ∙ row;
      back = λ n there row. sym (ap is_some (change_at_names law r k n below there)) ∙ row;
    }

    created_carries : (k : ℕ) → k < to.count
        → Carries to (HasCreatedRow r k) (HasCreatedRow (named_records to r) (to.name k))
    created_carries k below = record {
      numbered = λ t row.
          let (n, number, is) =
          number_where to.number (λ b. b) false (r.rows.created k) t (to.number t) refl refl
          (sym (row_at_name law false r.rows.created k t below) ∙ row) in
          (n, number);
      below = λ n row. (within.createds k n row).1;
      forth = λ n there row. created_at_names law r k n below there ∙ row;
      back = λ n there row. sym (created_at_names law r k n below there) ∙ row;
    }

    pub deps_by_name : (naming : Naming M) (order : ℕ → ℕ → Ordering)
        → OrdersAlike to naming order → (k : ℕ) → k < to.count → (deps : Deps ℕ)
        → AreDeps (numbers order) r k deps
        → AreDeps naming (named_records to r) (to.name k) (named_deps to.name deps)
    deps_by_name naming order orders k below deps are = record {
      change = listed_forth law naming order orders (change_carries k below) deps.change are.change;
      created = listed_forth law naming order orders (created_carries k below) deps.created
          are.created;
      always = are.always ∙ sym (value_at_name law false r.rows.always k below);
    }

-- a name of which nothing is known is up to date, and has no rows
module _ {N : Type 0} (st : State N) (t : N) (unknown : IsUnknown st t) where
  pub unknown_up_to_date : OutOfDate st.records t → ⊥
  unknown_up_to_date = idle_up_to_date st.records t (ap (λ (c : Cell). c.state) unknown.cell)

  pub unknown_has_no_rows : {naming : Naming N} → IsNaming naming
      → AreDeps naming st.records t (record { change = []; created = []; always = false })
  unknown_has_no_rows good = record {
    change = nothing_listed good
        (λ n row. false≢true (sym (ap is_some (unknown.change n)) ∙ row));
    created = nothing_listed good (λ n row. false≢true (sym (unknown.created n) ∙ row));
    always = sym unknown.always;
  }

module _ {M : Type 0} {to : Renaming M} (law : IsRenaming to) (st : State ℕ) where
  -- if nothing is known of a number, nothing is known of its name
  pub unknown_by_name : (k : ℕ) → k < to.count → IsUnknown st k
      → IsUnknown (named_state to st) (to.name k)
  unknown_by_name k below unknown =
      let rows = st.records.rows in
      record {
        cell = cell_at_name law st.records k below ∙ unknown.cell;
        change = λ t. row_at_name law None rows.change k t below
            ∙ ap (λ (f : ℕ → Option Mark). value_at None f (to.number t)) (fun_ext unknown.change)
            ∙ sym (default_at None (to.number t));
        created = λ t. row_at_name law false rows.created k t below
            ∙ ap (λ (f : ℕ → Bool). value_at false f (to.number t)) (fun_ext unknown.created)
            ∙ sym (default_at false (to.number t));
        always = value_at_name law false rows.always k below ∙ unknown.always;
        holder = value_at_name law None st.locks.holder k below ∙ unknown.holder;
      }

  -- nor of a name without a number
  pub unknown_without_number : (t : M) → to.number t ≡ None → IsUnknown (named_state to st) t
  unknown_without_number t none =
      let rows = st.records.rows in
      record {
        cell = ap (value_at idle st.records.cell) none;
        change = λ m. ap (λ (o : Option ℕ). value_at {X = M → Option Mark} (λ n. None)
            (λ k n. value_at None (rows.change k) (to.number n)) o m) none;
        created = λ m. ap (λ (o : Option ℕ). value_at {X = M → Bool} (λ n. false)
            (λ k n. value_at false (rows.created k) (to.number n)) o m) none;
        always = ap (value_at false rows.always) none;
        holder = ap (value_at None st.locks.holder) none;
      }
