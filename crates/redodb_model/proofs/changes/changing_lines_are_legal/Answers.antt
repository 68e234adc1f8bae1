use Rattle.redodb_model.specs.State.{empty}
use Rattle.redodb_model.proofs.Texts.{texts_are_names}
use Rattle.redodb_model.proofs.Unchanging.{changing_legal}
use Rattle.redodb_model.proofs.changes.changing_lines_are_legal.Goals as goal

pub returns : goal.returns
returns c = changing_legal texts_are_names empty
