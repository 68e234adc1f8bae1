use Rattle.redodb_text.proofs.ScriptSteps.{no_read_fault}
use Rattle.redodb_text.proofs.laws.no_read_fault.Goals as goal

pub returns : goal.returns
returns c = no_read_fault
