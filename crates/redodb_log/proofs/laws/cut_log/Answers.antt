use Rattle.redodb_log.proofs.CutLogs.{cut_log}
use Rattle.redodb_log.proofs.laws.cut_log.Goals as goal

pub returns : goal.returns
returns c = cut_log
