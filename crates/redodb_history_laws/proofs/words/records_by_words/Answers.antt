use Rattle.redodb_history_laws.proofs.Replayed.{words_replayed}
use Rattle.redodb_history_laws.proofs.words.records_by_words.Goals as goal

pub returns : goal.returns
returns c order plan lines law known = words_replayed law plan lines known
