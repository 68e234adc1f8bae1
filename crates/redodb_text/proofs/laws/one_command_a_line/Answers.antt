use Rattle.redodb_text.proofs.LineLaws.{one_command}
use Rattle.redodb_text.proofs.laws.one_command_a_line.Goals as goal

pub returns : goal.returns
returns c = one_command
