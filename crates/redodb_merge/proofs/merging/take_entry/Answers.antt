use Rattle.std.proofs.Common.{arith}
use Rattle.std.proofs.lemmas.Grind.{common_steps}
use Rattle.redodb_merge.proofs.merging.take_entry.Goals as goal

pub take-requires : goal.take-requires
take-requires c = grind (arith, common_steps)

pub returns-clause-turned : goal.returns-clause-turned
returns-clause-turned c = grind (arith, common_steps)

pub returns-clause-taken : goal.returns-clause-taken
returns-clause-taken c = grind (arith, common_steps)
