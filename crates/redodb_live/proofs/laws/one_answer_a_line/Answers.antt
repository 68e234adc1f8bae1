use Rattle.redodb_live.proofs.OneAnswer.{one_answer}
use Rattle.redodb_live.proofs.laws.one_answer_a_line.Goals as goal

pub returns : goal.returns
returns c = one_answer
