use Rattle.redodb_dump.proofs.WorkedDumps.{rows_dumped}
use Rattle.redodb_dump.proofs.WorkedStates.{with_rows_is}
use Rattle.redodb_dump.proofs.worked.rows_are_dumped.Goals as goal

pub returns-clause-text : goal.returns-clause-text
returns-clause-text c = rows_dumped

pub returns-clause-over : goal.returns-clause-over
returns-clause-over c = with_rows_is
