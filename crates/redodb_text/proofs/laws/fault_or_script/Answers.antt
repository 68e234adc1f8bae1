use Rattle.redodb_text.proofs.FaultOrScript.{script_or_fault, one_first_fault}
use Rattle.redodb_text.proofs.laws.fault_or_script.Goals as goal

pub returns-clause-either : goal.returns-clause-either
returns-clause-either c = script_or_fault

pub returns-clause-one : goal.returns-clause-one
returns-clause-one c = one_first_fault
