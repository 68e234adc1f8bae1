use Rattle.redodb_model.specs.Names.{texts}
use Rattle.redodb_history_laws.proofs.Orders.{joint_of_plan}
use Rattle.redodb_history_laws.proofs.histories.joint_order_is_of_plan.Goals as goal

pub returns : goal.returns
returns c = joint_of_plan texts
