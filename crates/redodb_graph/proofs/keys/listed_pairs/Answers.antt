use Rattle.std.proofs.Common.{arith}
use Rattle.std.proofs.lemmas.Grind.{common_steps}
use Rattle.redodb_graph.proofs.keys.listed_pairs.Goals as goal

pub loop-script-preserved : goal.loop-script-preserved
loop-script-preserved c = grind (arith, common_steps)

pub returns : goal.returns
returns c = grind (arith, common_steps)
