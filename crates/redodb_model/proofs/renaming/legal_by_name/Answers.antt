use Rattle.redodb_model.specs.Names.{texts}
use Rattle.redodb_model.proofs.Texts.{texts_are_names}
use Rattle.redodb_model.proofs.HistoriesByName.{legal_by_name}
use Rattle.redodb_model.proofs.renaming.legal_by_name.Goals as goal

pub returns : goal.returns
returns c to order lines law orders below =
    legal_by_name law texts texts_are_names order orders lines below
