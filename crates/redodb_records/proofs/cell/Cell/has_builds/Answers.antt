use Rattle.std.proofs.Common.{rules}
use Rattle.redodb_records.proofs.cell.Cell.has_builds.Goals as goal

pub returns-in-Built-None : goal.returns-in-Built-None
returns-in-Built-None c = search rules
