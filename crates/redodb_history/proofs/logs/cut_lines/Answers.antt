use Rattle.redodb_history.proofs.CutLogs.{cut_lines}
use Rattle.redodb_history.proofs.logs.cut_lines.Goals as goal

pub returns : goal.returns
returns c = cut_lines
