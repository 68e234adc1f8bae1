use Rattle.redodb_model.proofs.Texts.{texts_are_names}
use Rattle.redodb_model.proofs.Letting.{nothing_held}
use Rattle.redodb_model.proofs.histories.nothing_is_held.Goals as goal

pub returns : goal.returns
returns c = nothing_held texts_are_names
