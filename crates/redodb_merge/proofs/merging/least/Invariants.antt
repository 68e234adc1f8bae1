use Rattle.redodb_merge.specs.Support.Waiting.{AreWaiting}
use Rattle.redodb_merge.proofs.merging.least.Given as goal

abbrev pub invariant-looking : goal.invariant-looking
invariant-looking l = AreWaiting l.waiting l.turns l.counts l.journals l.next

abbrev pub decreases-looking : goal.decreases-looking
decreases-looking l = l.waiting.ready
