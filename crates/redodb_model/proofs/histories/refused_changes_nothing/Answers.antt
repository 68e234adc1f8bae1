use Rattle.redodb_model.specs.Names.{texts}
use Rattle.redodb_model.proofs.Refused.{refused_same}
use Rattle.redodb_model.proofs.histories.refused_changes_nothing.Goals as goal

pub returns : goal.returns
returns c = refused_same texts
