use Rattle.std.proofs.Common.{◌≤◌, ◌-◌, length}
use Rattle.redodb_live_cli.proofs.writing.write_or_part.Given as goal

abbrev pub invariant-writes : goal.invariant-writes
invariant-writes g l = record { within : l.at ≤ length l.bytes }

abbrev pub decreases-writes : goal.decreases-writes
decreases-writes g l = length l.bytes - l.at
