use Rattle.std.proofs.Common.{◌≡◌, ◌-◌, length}
use Rattle.redodb_journal.proofs.Nexts.{first_at}
use Rattle.redodb_journal.proofs.next.first_done.Given as goal

abbrev pub invariant-loop-at : goal.invariant-loop-at
invariant-loop-at l = first_at l.script l.through l.at ≡ first_at l.script l.through l.from

abbrev pub decreases-loop-at : goal.decreases-loop-at
decreases-loop-at l = length l.items - l.at
