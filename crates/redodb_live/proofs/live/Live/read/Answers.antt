use Rattle.std.proofs.Common.{◌∙◌, ap, sym, subst}
use Rattle.redodb_names.specs.Support.Names.{AreNames}
use Rattle.redodb_database.specs.Tables.{state_of, calls_of}
use Rattle.redodb_live.specs.Support.LiveState.{LiveState, state_in}
use Rattle.redodb_live.proofs.Answering.{state_kept}
use Rattle.redodb_live.proofs.Keeping.{IsKept-Extends}
use Rattle.redodb_live.proofs.live.Live.read.Goals as goal

pub invariant_of-self : goal.invariant_of-self
invariant_of-self c =
    let old_are : AreNames c.self.inside.names =
    subst (λ (l : LiveState). AreNames l.names) (sym c.self.view_is) c.requires.names in
    record {
      few = c.in-Ok.ensures.read.1.1;
      state = IsKept-Extends c.self.inside.names c.read_command.new.names old_are
          c.are_names.ensures c.in-Ok.ensures.kept (state_of c.self.inside.redo)
          (calls_of c.self.inside.redo) c.self.invariant.state;
      numbers = c.self.invariant.numbers;
    }

pub returns-in-Ok-clause-state : goal.returns-in-Ok-clause-state
returns-in-Ok-clause-state c =
    let old_are : AreNames c.self.inside.names =
    subst (λ (l : LiveState). AreNames l.names) (sym c.self.view_is) c.requires.names in
    state_kept c.self.inside.names c.read_command.new.names old_are c.are_names.ensures
    c.in-Ok.ensures.kept (state_of c.self.inside.redo) c.self.invariant.state.within
    ∙ ap state_in c.self.view_is
