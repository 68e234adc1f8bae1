use Rattle.redodb_replica.proofs.Marks.{mark_once}
use Rattle.redodb_replica.proofs.laws.same_mark.Goals as goal

pub returns : goal.returns
returns c = mark_once
