use Rattle.redodb_model.proofs.Texts.{texts_are_names}
use Rattle.redodb_model.proofs.Letting.{closing_accepted}
use Rattle.redodb_model.proofs.histories.closing_is_accepted.Goals as goal

pub returns : goal.returns
returns c = closing_accepted texts_are_names
