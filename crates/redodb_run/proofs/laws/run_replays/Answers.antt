use Rattle.redodb_run.proofs.RunReplays.{run_replays}
use Rattle.redodb_run.proofs.laws.run_replays.Goals as goal

pub returns : goal.returns
returns c = run_replays
