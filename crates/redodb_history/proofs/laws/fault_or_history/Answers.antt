use Rattle.redodb_history.proofs.FaultOrHistory.{fault_or_history}
use Rattle.redodb_history.proofs.OneFault.{one_fault}
use Rattle.redodb_history.proofs.laws.fault_or_history.Goals as goal

pub returns-clause-either : goal.returns-clause-either
returns-clause-either c = fault_or_history

pub returns-clause-one : goal.returns-clause-one
returns-clause-one c = one_fault
