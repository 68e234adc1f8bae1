use Rattle.redodb_history.proofs.OneHistory.{one_history}
use Rattle.redodb_history.proofs.laws.one_history.Goals as goal

pub returns : goal.returns
returns c = one_history
