use Rattle.redodb_history_laws.proofs.Legal.{appearance_legal}
use Rattle.redodb_history_laws.proofs.worked_histories.appearance_is_legal.Goals as goal

pub returns : goal.returns
returns c = appearance_legal
