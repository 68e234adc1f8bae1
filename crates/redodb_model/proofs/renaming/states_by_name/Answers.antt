use Rattle.redodb_model.specs.Names.{texts}
use Rattle.redodb_model.proofs.Texts.{texts_are_names}
use Rattle.redodb_model.proofs.HistoriesByName.{state_by_name}
use Rattle.redodb_model.proofs.renaming.states_by_name.Goals as goal

pub returns : goal.returns
returns c to order lines law below = state_by_name law texts texts_are_names order lines below
