use Rattle.redodb_text.proofs.ItemTexts.{line_reads_back}
use Rattle.redodb_text.proofs.laws.line_reads_back.Goals as goal

pub returns : goal.returns
returns c = line_reads_back
