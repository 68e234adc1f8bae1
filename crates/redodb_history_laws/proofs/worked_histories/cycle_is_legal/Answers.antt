use Rattle.redodb_history_laws.proofs.Legal.{cycle_legal}
use Rattle.redodb_history_laws.proofs.worked_histories.cycle_is_legal.Goals as goal

pub returns : goal.returns
returns c = cycle_legal
