use Rattle.redodb_history.proofs.NoFault.{no_fault}
use Rattle.redodb_history.proofs.laws.no_fault.Goals as goal

pub returns : goal.returns
returns c = no_fault
