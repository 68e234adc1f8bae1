use Rattle.std.proofs.Common.{arith}
use Rattle.std.proofs.lemmas.Grind.{common_steps}
use Rattle.redodb_graph.proofs.keys.push_script.Goals as goal

pub returns-in_err-push_command : goal.returns-in_err-push_command
returns-in_err-push_command c = grind (arith, common_steps)

pub loop-item-preserved : goal.loop-item-preserved
loop-item-preserved c = grind (arith, common_steps)

pub returns : goal.returns
returns c = grind (arith, common_steps)
