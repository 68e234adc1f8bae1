use Rattle.redodb_dump.proofs.WorkedDumps.{source_dumped}
use Rattle.redodb_dump.proofs.WorkedStates.{source_is}
use Rattle.redodb_dump.proofs.worked.source_is_dumped.Goals as goal

pub returns-clause-text : goal.returns-clause-text
returns-clause-text c = source_dumped

pub returns-clause-over : goal.returns-clause-over
returns-clause-over c = source_is
