use Rattle.std.proofs.Common.{rules}
use Rattle.redodb_records.proofs.cell.Cell.stamp.Goals as goal

pub returns : goal.returns
returns c = search rules
