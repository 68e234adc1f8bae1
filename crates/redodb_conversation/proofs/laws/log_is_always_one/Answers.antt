use Rattle.redodb_conversation.proofs.LawfulTalks.{always_restores}
use Rattle.redodb_conversation.proofs.laws.log_is_always_one.Goals as goal

pub returns : goal.returns
returns c = always_restores
