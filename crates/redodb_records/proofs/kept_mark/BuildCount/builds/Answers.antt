use Rattle.std.proofs.Common.{rules}
use Rattle.redodb_records.proofs.kept_mark.BuildCount.builds.Goals as goal

pub returns : goal.returns
returns c = search rules
