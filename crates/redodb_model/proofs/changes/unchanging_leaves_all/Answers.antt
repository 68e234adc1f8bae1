use Rattle.redodb_model.proofs.Texts.{texts_are_names}
use Rattle.redodb_model.proofs.Unchanging.{unchanging_same}
use Rattle.redodb_model.proofs.changes.unchanging_leaves_all.Goals as goal

pub returns : goal.returns
returns c = unchanging_same texts_are_names
