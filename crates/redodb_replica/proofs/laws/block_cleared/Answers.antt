use Rattle.redodb_replica.proofs.Written.{rows_cleared}
use Rattle.redodb_replica.proofs.laws.block_cleared.Goals as goal

pub returns : goal.returns
returns c = rows_cleared
