use Rattle.redodb_model.specs.Names.{texts}
use Rattle.redodb_model.proofs.Parts.{all_done}
use Rattle.redodb_model.proofs.journals.unguarded_are_all_done.Goals as goal

pub returns : goal.returns
returns c session script lines plain whole =
    all_done texts session script lines plain whole
