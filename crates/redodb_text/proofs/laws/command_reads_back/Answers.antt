use Rattle.redodb_text.proofs.LineLaws.{text_is_spelled}
use Rattle.redodb_text.proofs.laws.command_reads_back.Goals as goal

pub returns : goal.returns
returns c command form short = (form, short, text_is_spelled command form)
