use Rattle.std.proofs.Common.{arith}
use Rattle.std.proofs.lemmas.Grind.{common_steps}
use Rattle.redodb_memo.proofs.Deriving.{right_at_first}
use Rattle.redodb_memo.proofs.memo.Memo.new.Goals as goal

pub returns-clause-right : goal.returns-clause-right
returns-clause-right c = right_at_first c.args.names c.in_ok-out.out c.in_ok-out.ensures

pub invariant_of-result : goal.invariant_of-result
invariant_of-result c = grind (arith, common_steps)

pub returns-clause-count : goal.returns-clause-count
returns-clause-count c = grind (arith, common_steps)
