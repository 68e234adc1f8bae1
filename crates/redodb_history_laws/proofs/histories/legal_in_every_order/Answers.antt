use Rattle.redodb_model.proofs.Texts.{texts_are_names}
use Rattle.redodb_history_laws.proofs.Orders.{legal_in_every_order}
use Rattle.redodb_history_laws.proofs.histories.legal_in_every_order.Goals as goal

pub returns : goal.returns
returns c = legal_in_every_order texts_are_names
