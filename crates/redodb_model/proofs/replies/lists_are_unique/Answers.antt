use Rattle.redodb_model.proofs.Lists.{same_ascending}
use Rattle.redodb_model.proofs.Texts.{texts_are_names}
use Rattle.redodb_model.proofs.replies.lists_are_unique.Goals as goal

pub returns : goal.returns
returns c = same_ascending texts_are_names
