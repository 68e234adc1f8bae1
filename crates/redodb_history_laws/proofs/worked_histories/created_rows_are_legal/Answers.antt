use Rattle.redodb_history_laws.proofs.Legal.{created_rows_legal}
use Rattle.redodb_history_laws.proofs.worked_histories.created_rows_are_legal.Goals as goal

pub returns : goal.returns
returns c = created_rows_legal
