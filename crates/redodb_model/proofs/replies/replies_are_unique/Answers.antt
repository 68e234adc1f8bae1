use Rattle.redodb_model.proofs.Unique.{one_answer}
use Rattle.redodb_model.proofs.Texts.{texts_are_names}
use Rattle.redodb_model.proofs.replies.replies_are_unique.Goals as goal

pub returns : goal.returns
returns c = one_answer texts_are_names
