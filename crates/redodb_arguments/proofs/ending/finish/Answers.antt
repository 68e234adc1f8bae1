use Rattle.redodb_arguments.proofs.Told.{by_flag}
use Rattle.redodb_arguments.proofs.ending.finish.Goals as goal

pub returns-in-Err-clause-line : goal.returns-in-Err-clause-line
returns-in-Err-clause-line g c =
    rw c.in-Err.is (by_flag c.tell.result _ c.tell.ensures.line c.tell.ensures.failed)
