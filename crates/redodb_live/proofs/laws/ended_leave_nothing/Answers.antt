use Rattle.redodb_live.proofs.EndingAll.{held_out, built_out}
use Rattle.redodb_live.proofs.laws.ended_leave_nothing.Goals as goal

pub returns-clause-held : goal.returns-clause-held
returns-clause-held c = held_out

pub returns-clause-built : goal.returns-clause-built
returns-clause-built c = built_out
