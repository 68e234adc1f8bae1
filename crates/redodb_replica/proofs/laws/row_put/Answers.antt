use Rattle.redodb_replica.proofs.Written.{change_put, created_put}
use Rattle.redodb_replica.proofs.laws.row_put.Goals as goal

pub returns-clause-change : goal.returns-clause-change
returns-clause-change c = change_put

pub returns-clause-created : goal.returns-clause-created
returns-clause-created c = created_put
