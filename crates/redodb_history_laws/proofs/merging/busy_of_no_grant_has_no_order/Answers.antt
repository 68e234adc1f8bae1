use Rattle.redodb_history_laws.proofs.OneOrder.{no_order}
use Rattle.redodb_history_laws.proofs.merging.busy_of_no_grant_has_no_order.Goals as goal

pub returns : goal.returns
returns c = no_order
