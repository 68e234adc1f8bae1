use Rattle.redodb_history_laws.proofs.OneOrder.{one_order}
use Rattle.redodb_history_laws.proofs.merging.merging_has_one_order.Goals as goal

pub returns-clause-only : goal.returns-clause-only
returns-clause-only c = one_order
