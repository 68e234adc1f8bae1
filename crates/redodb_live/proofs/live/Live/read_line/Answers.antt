use Rattle.std.proofs.Common.{◌∙◌, ap, arith}
use Rattle.redodb_database.specs.Tables.{state_of, calls_of}
use Rattle.redodb_live.specs.Support.LiveState.{state_in}
use Rattle.redodb_live.proofs.Answering.{state_kept}
use Rattle.redodb_live.proofs.Keeping.{IsKept-Extends}
use Rattle.redodb_live.proofs.live.Live.read_line.Goals as goal

pub invariant_of-self : goal.invariant_of-self
invariant_of-self c = record {
  few = omega (arith, c.in-Ok.ensures.named.1);
  state = IsKept-Extends c.self.inside.names c.read_line.new.names c.are_names.ensures
      c.are_names-in-Ok.ensures c.in-Ok.ensures.kept (state_of c.self.inside.redo)
      (calls_of c.self.inside.redo) c.self.invariant.state;
  numbers = c.self.invariant.numbers;
}

pub returns-in-Ok-clause-state : goal.returns-in-Ok-clause-state
returns-in-Ok-clause-state c =
    state_kept c.self.inside.names c.read_line.new.names c.are_names.ensures
    c.are_names-in-Ok.ensures c.in-Ok.ensures.kept (state_of c.self.inside.redo)
    c.self.invariant.state.within
    ∙ ap state_in c.self.view_is
