use Rattle.redodb_model.proofs.Texts.{texts_are_names}
use Rattle.redodb_history_laws.proofs.FromName.{first_joint_by_name, no_joint_by_name}
use Rattle.redodb_history_laws.proofs.renaming.first_joint_order_by_name.Goals as goal

pub returns-clause-first : goal.returns-clause-first
returns-clause-first c to order journals lines law below first =
    first_joint_by_name law texts_are_names order journals lines below first

pub returns-clause-none : goal.returns-clause-none
returns-clause-none c to order journals law below none lines joint =
    no_joint_by_name law texts_are_names order journals below none lines joint
