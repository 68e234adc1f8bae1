use Rattle.redodb_history_laws.proofs.Replayed.{words_fix}
use Rattle.redodb_history_laws.proofs.words.words_fix_the_records.Goals as goal

pub returns : goal.returns
returns c order plan one other law = words_fix law plan one other
