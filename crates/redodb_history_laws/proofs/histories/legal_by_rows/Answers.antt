use Rattle.redodb_model.proofs.Texts.{texts_are_names}
use Rattle.redodb_history_laws.proofs.Bridge.{legal_by_rows}
use Rattle.redodb_history_laws.proofs.histories.legal_by_rows.Goals as goal

pub returns : goal.returns
returns c lines placed = legal_by_rows texts_are_names lines placed
