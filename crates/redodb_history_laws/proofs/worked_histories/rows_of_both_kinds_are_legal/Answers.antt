use Rattle.redodb_history_laws.proofs.Legal.{rows_of_both_kinds_legal}
use Rattle.redodb_history_laws.proofs.worked_histories.rows_of_both_kinds_are_legal.Goals as goal

pub returns : goal.returns
returns c = rows_of_both_kinds_legal
