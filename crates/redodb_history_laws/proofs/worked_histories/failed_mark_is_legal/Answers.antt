use Rattle.redodb_history_laws.proofs.Legal.{failed_mark_legal}
use Rattle.redodb_history_laws.proofs.worked_histories.failed_mark_is_legal.Goals as goal

pub returns : goal.returns
returns c = failed_mark_legal
