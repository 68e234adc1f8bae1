use Rattle.redodb_dump.proofs.OneDump.{one_dump}
use Rattle.redodb_dump.proofs.laws.one_dump.Goals as goal

pub returns : goal.returns
returns c = one_dump
