use Rattle.std.proofs.Common.{rules}
use Rattle.redodb_records.proofs.cell.Cell.is_edited.Goals as goal

pub returns-in-Built : goal.returns-in-Built
returns-in-Built c = search rules
