use Rattle.redodb_history_laws.proofs.Legal.{own_reasons_legal}
use Rattle.redodb_history_laws.proofs.worked_histories.own_reasons_are_legal.Goals as goal

pub returns : goal.returns
returns c = own_reasons_legal
