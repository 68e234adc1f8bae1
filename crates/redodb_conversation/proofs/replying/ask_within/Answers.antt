use Rattle.std.proofs.Common.{arith}
use Rattle.std.proofs.lemmas.Grind.{common_steps}
use Rattle.redodb_conversation.proofs.replying.ask_within.Goals as goal

pub returns-then-size-most-clause-cause : goal.returns-then-size-most-clause-cause
returns-then-size-most-clause-cause c = grind (arith, common_steps)

pub returns-then-size-most-clause-unwritten : goal.returns-then-size-most-clause-unwritten
returns-then-size-most-clause-unwritten c = grind (arith, common_steps)
