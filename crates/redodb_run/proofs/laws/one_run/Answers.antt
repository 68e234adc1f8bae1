use Rattle.redodb_run.proofs.OneRun.{one_run_text}
use Rattle.redodb_run.proofs.laws.one_run.Goals as goal

pub returns : goal.returns
returns c = one_run_text
