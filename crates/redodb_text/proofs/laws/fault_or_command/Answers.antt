use Rattle.redodb_text.proofs.FaultOrCommand.{no_fault_in_a_line, command_without_fault}
use Rattle.redodb_text.proofs.laws.fault_or_command.Goals as goal

pub returns-clause-command : goal.returns-clause-command
returns-clause-command c most names line none = command_without_fault names line none

pub returns-clause-fault : goal.returns-clause-fault
returns-clause-fault c most names line command after is adds =
    no_fault_in_a_line names line command after is adds
