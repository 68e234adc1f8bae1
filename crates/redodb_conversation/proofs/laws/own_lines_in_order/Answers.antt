use Rattle.redodb_conversation.proofs.LawfulSessions.{own_lines}
use Rattle.redodb_conversation.proofs.laws.own_lines_in_order.Goals as goal

pub returns : goal.returns
returns c s before rounds few are = own_lines s few before rounds are
