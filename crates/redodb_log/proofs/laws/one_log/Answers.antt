use Rattle.redodb_log.proofs.CutLogs.{one_log}
use Rattle.redodb_log.proofs.laws.one_log.Goals as goal

pub returns : goal.returns
returns c = one_log
