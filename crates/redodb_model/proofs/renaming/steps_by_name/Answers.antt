use Rattle.redodb_model.specs.Names.{texts}
use Rattle.redodb_model.proofs.Texts.{texts_are_names}
use Rattle.redodb_model.proofs.StepsByName.{after_by_name}
use Rattle.redodb_model.proofs.renaming.steps_by_name.Goals as goal

pub returns : goal.returns
returns c to order state session command law below =
    after_by_name law texts texts_are_names order state session command below
