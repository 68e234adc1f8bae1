use Rattle.redodb_dump.proofs.WorkedDumps.{nothing_dumped}
use Rattle.redodb_dump.proofs.WorkedStates.{nothing_is}
use Rattle.redodb_dump.proofs.worked.nothing_is_dumped.Goals as goal

pub returns-clause-text : goal.returns-clause-text
returns-clause-text c = nothing_dumped

pub returns-clause-over : goal.returns-clause-over
returns-clause-over c = nothing_is
