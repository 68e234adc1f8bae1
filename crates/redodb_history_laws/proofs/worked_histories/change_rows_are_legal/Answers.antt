use Rattle.redodb_history_laws.proofs.Legal.{change_rows_legal}
use Rattle.redodb_history_laws.proofs.worked_histories.change_rows_are_legal.Goals as goal

pub returns : goal.returns
returns c = change_rows_legal
