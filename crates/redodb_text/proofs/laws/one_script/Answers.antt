use Rattle.redodb_text.proofs.ScriptLaws.{one_script}
use Rattle.redodb_text.proofs.laws.one_script.Goals as goal

pub returns : goal.returns
returns c = one_script
