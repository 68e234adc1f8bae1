use Rattle.redodb_log.proofs.CutLogs.{one_past}
use Rattle.redodb_log.proofs.laws.one_past.Goals as goal

pub returns : goal.returns
returns c = one_past
