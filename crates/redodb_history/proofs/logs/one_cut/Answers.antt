use Rattle.redodb_history.proofs.CutLogs.{one_cut}
use Rattle.redodb_history.proofs.logs.one_cut.Goals as goal

pub returns : goal.returns
returns c = one_cut
