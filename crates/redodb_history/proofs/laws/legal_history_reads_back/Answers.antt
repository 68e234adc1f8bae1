use Rattle.redodb_history.proofs.HistoryReadsBack.{legal_history_reads_back}
use Rattle.redodb_history.proofs.laws.legal_history_reads_back.Goals as goal

pub returns : goal.returns
returns c = legal_history_reads_back
