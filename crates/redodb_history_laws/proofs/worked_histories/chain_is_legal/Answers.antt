use Rattle.redodb_history_laws.proofs.Legal.{chain_legal}
use Rattle.redodb_history_laws.proofs.worked_histories.chain_is_legal.Goals as goal

pub returns : goal.returns
returns c = chain_legal
