use Rattle.redodb_dump.proofs.WorkedDumps.{building_dumped}
use Rattle.redodb_dump.proofs.WorkedStates.{building_is}
use Rattle.redodb_dump.proofs.worked.building_is_dumped.Goals as goal

pub returns-clause-text : goal.returns-clause-text
returns-clause-text c = building_dumped

pub returns-clause-over : goal.returns-clause-over
returns-clause-over c = building_is
