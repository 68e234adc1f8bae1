use Rattle.redodb_history_laws.proofs.Legal.{common_path_legal}
use Rattle.redodb_history_laws.proofs.worked_histories.common_path_is_legal.Goals as goal

pub returns : goal.returns
returns c = common_path_legal
