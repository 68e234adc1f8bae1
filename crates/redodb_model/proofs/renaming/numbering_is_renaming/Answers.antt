use Rattle.redodb_model.proofs.Naming.{numbering_is_renaming}
use Rattle.redodb_model.proofs.renaming.numbering_is_renaming.Goals as goal

pub returns : goal.returns
returns c names distinct = numbering_is_renaming names distinct
