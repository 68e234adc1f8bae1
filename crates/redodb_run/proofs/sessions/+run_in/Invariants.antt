use Rattle.std.proofs.Common.{◌-◌}
use Rattle.redodb_run.proofs.sessions.+run_in.Given as goal

abbrev pub decreases-run_in : goal.decreases-run_in
decreases-run_in g l = l.sessions.end - l.sessions.first
