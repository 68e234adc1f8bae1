use Rattle.std.proofs.Common.{ℕ, ◌<◌, ◌≤◌, length, get_or, []}
use Rattle.redodb_journal.proofs.plan.Plan.new.Given as goal

abbrev pub invariant-loop-script : goal.invariant-loop-script
invariant-loop-script l = (k : ℕ) → k < l.script-index → length (get_or l.script-items k []) ≤ 4096
