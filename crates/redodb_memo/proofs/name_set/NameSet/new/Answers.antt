use Rattle.std.proofs.Common.{rules}
use Rattle.redodb_memo.proofs.name_set.NameSet.new.Goals as goal

pub returns : goal.returns
returns c = search rules
