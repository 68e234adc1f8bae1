use Rattle.redodb_model.proofs.Texts.{texts_are_names}
use Rattle.redodb_history_laws.proofs.FromName.{joint_from_name}
use Rattle.redodb_history_laws.proofs.renaming.joint_order_from_names.Goals as goal

pub returns : goal.returns
returns c to order journals lines law below joint =
    joint_from_name law texts_are_names order journals below lines joint
