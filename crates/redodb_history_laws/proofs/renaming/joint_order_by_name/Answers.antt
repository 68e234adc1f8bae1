use Rattle.redodb_model.proofs.Texts.{texts_are_names}
use Rattle.redodb_history_laws.proofs.ByName.{joint_by_name}
use Rattle.redodb_history_laws.proofs.renaming.joint_order_by_name.Goals as goal

pub returns : goal.returns
returns c to order journals lines law below joint =
    joint_by_name law texts_are_names order journals lines below joint
