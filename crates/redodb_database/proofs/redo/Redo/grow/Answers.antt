use Rattle.std.proofs.Common.{◌≡◌, ◌∙◌, ◌≤◌, ℕ, List, Option, None, get_or, ap, subst, sym, arith}
use Rattle.redodb_model.specs.State.{Cell}
use Rattle.redodb_database.specs.Tables.{state_of, calls_of}
use Rattle.redodb_database.specs.Support.Kept.{tables_of}
use Rattle.redodb_database.proofs.Holding.{same_holders}
use Rattle.redodb_database.proofs.Slots.{same_records, same_state, still_right}
use Rattle.redodb_database.proofs.redo.Redo.grow.Goals as goal

pub invariant_of-self-2 : goal.invariant_of-self-2
invariant_of-self-2 c =
    let old = c.self.inside in
    let are = c.self.invariant.tables in
    let made = c.in_ok-grow_both.ensures in
    let holders : (n : ℕ) → get_or c.in_ok-holders.holders.items n None
    ≡ get_or old.holders.items n None =
    λ n. c.in_ok-holders.ensures.same n
    ∙ ap (λ (hs : List (Option ℕ)). get_or hs n None) c.deref.ensures.value in
    let grants : (n : ℕ) → get_or c.in_ok-grants.grants.items n 0 ≡ get_or old.grants.items n 0 =
    λ n. c.in_ok-grants.ensures.same n
    ∙ ap (λ (gs : List ℕ). get_or gs n 0) c.deref-2.ensures.value in
    record {
      tables = record {
        rows_for_each = made.counted ∙ sym made.count;
        holder_for_each = c.in_ok-holders.ensures.count ∙ sym made.count;
        grants_for_each = c.in_ok-grants.ensures.count ∙ sym made.count;
        few_names = omega (arith, made.count);
        few_builds = λ n.
            subst (λ (x : Cell). x.builds ≤ old.calls) (sym (c.grow_both.ensures.cells n))
            (are.few_builds n);
        few_grants = λ n.
            subst (λ (m : ℕ). m ≤ old.calls) (sym (grants n)) (are.few_grants n);
      };
      memo_for_each = c.in_ok-memo.ensures.count ∙ sym made.count;
      memo_right = still_right old.memo c.in_ok-memo.memo _ _ c.in_ok-memo.ensures.same
          (same_records old.records c.grow_both.new.records old.rows c.grow_both.new.rows
          c.grow_both.ensures.cells c.grow_both.ensures.rows) c.self.invariant.memo_right;
      held_for_each = c.in_ok-held.ensures.count ∙ sym c.in_ok-holders.ensures.count;
      held_right = same_holders old.holders.items c.in_ok-holders.holders.items old.held
          c.in_ok-held.held holders c.in_ok-held.ensures.same c.self.invariant.held_right;
    }

pub returns-clause-state : goal.returns-clause-state
returns-clause-state c =
    let old = c.self.inside in
    let new = record old {
      records = c.grow_both.new.records;
      rows = c.grow_both.new.rows;
      holders = c.in_ok-holders.holders;
      grants = c.in_ok-grants.grants;
    } in
    same_state (tables_of old) (tables_of new)
    (same_records old.records c.grow_both.new.records old.rows c.grow_both.new.rows
    c.grow_both.ensures.cells c.grow_both.ensures.rows)
    (λ n. c.in_ok-holders.ensures.same n
    ∙ ap (λ (hs : List (Option ℕ)). get_or hs n None) c.deref.ensures.value)
    (λ n. c.in_ok-grants.ensures.same n
    ∙ ap (λ (gs : List ℕ). get_or gs n 0) c.deref-2.ensures.value)
    ∙ ap state_of c.self.view_is

pub returns-clause-calls : goal.returns-clause-calls
returns-clause-calls c = ap calls_of c.self.view_is

pub returns-clause-count : goal.returns-clause-count
returns-clause-count c = c.in_ok-grow_both.ensures.count
