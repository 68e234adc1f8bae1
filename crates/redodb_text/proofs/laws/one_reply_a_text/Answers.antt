use Rattle.redodb_text.proofs.RepliesRead.{one_reply}
use Rattle.redodb_text.proofs.laws.one_reply_a_text.Goals as goal

pub returns : goal.returns
returns c = one_reply
