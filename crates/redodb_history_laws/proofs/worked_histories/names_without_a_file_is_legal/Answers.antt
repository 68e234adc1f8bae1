use Rattle.redodb_history_laws.proofs.Legal.{names_without_a_file_legal}
use Rattle.redodb_history_laws.proofs.worked_histories.names_without_a_file_is_legal.Goals as goal

pub returns : goal.returns
returns c = names_without_a_file_legal
