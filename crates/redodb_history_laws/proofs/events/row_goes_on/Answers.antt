use Rattle.redodb_model.proofs.Texts.{texts_are_names}
use Rattle.redodb_history_laws.proofs.EndMore.{row_event}
use Rattle.redodb_history_laws.proofs.events.row_goes_on.Goals as goal

pub returns : goal.returns
returns c = row_event texts_are_names
