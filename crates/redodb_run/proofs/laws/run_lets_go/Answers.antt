use Rattle.redodb_run.proofs.LetGo.{run_lets_go}
use Rattle.redodb_run.proofs.laws.run_lets_go.Goals as goal

pub returns : goal.returns
returns c = run_lets_go
