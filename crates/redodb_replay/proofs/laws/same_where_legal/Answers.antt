use Rattle.redodb_replay.proofs.OneVerdict.{same_where_legal}
use Rattle.redodb_replay.proofs.laws.same_where_legal.Goals as goal

pub returns : goal.returns
returns c = same_where_legal
