use Rattle.redodb_history_laws.proofs.Legal.{contents_and_builds_legal}
use Rattle.redodb_history_laws.proofs.worked_histories.contents_and_builds_are_legal.Goals as goal

pub returns : goal.returns
returns c = contents_and_builds_legal
