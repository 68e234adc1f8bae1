use Rattle.std.proofs.Common.{arith}
use Rattle.std.proofs.lemmas.Grind.{common_steps}
use Rattle.redodb_replica.proofs.replica.Replica.change.Goals as goal

pub returns-else-lets_through-clause-after : goal.returns-else-lets_through-clause-after
returns-else-lets_through-clause-after c = grind (arith, common_steps)
