use Rattle.std.proofs.Common.{slice_index}
use Rattle.redodb_merge.specs.Support.Waiting.{AreWaiting}
use Rattle.redodb_merge.proofs.Unmerged.{left}
use Rattle.redodb_merge.proofs.MergeSteps.{Merging}
use Rattle.redodb_merge.proofs.merging.merge.Given as goal

abbrev pub invariant-merging : goal.invariant-merging
invariant-merging l = record {
  merging : Merging l.plan l.journals l.turns l.counts l.next.items l.lines.items;
  waiting : AreWaiting l.waiting l.turns l.counts l.journals l.next.items;
}

abbrev pub decreases-merging : goal.decreases-merging
decreases-merging l = left (λ i. slice_index l.next.items i) l.journals
