use Rattle.std.proofs.Common.{ℕ, length, arith, sym, ap, ◌∙◌, subst}
use Rattle.redodb_model.specs.State.{State, empty}
use Rattle.redodb_model.specs.Support.Renaming.{named_state, numbering}
use Rattle.redodb_model.proofs.HistoriesByName.{empty_by_name}
use Rattle.redodb_database.specs.Tables.{calls_of}
use Rattle.redodb_live.specs.Support.Kept.{IsKept}
use Rattle.redodb_live.proofs.Keeping.{IsKept-empty}
use Rattle.redodb_live.proofs.live.Live.new.Goals as goal

pub invariant_of-result : goal.invariant_of-result
invariant_of-result c =
    let names = c.new.result in
    record {
      few = omega (arith, ap length c.new.ensures);
      state = subst (λ (st : State ℕ). IsKept names st (calls_of c.in_ok-redo.redo))
          (sym c.in_ok-redo.ensures.empty)
          (subst (IsKept names empty) (sym c.in_ok-redo.ensures.calls) (IsKept-empty names));
      numbers = sym c.in_ok-redo.ensures.count;
    }

pub returns-clause-state : goal.returns-clause-state
returns-clause-state c =
    ap (named_state (numbering c.new.result)) c.in_ok-redo.ensures.empty
    ∙ empty_by_name (numbering c.new.result)
