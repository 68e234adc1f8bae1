use Rattle.redodb_history.proofs.HistoryReadsBack.{history_reads_back}
use Rattle.redodb_history.proofs.laws.history_reads_back.Goals as goal

pub returns : goal.returns
returns c = history_reads_back
