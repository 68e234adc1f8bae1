use Rattle.std.proofs.Common.{◌≤◌, ◌-◌, length}
use Rattle.redodb_history.proofs.TextCuts.{NoArrowBelow}
use Rattle.redodb_history.proofs.cuts.cut_at_arrow.Given as goal

abbrev pub invariant-loop-more : goal.invariant-loop-more
invariant-loop-more l = record {
  within : l.seen ≤ length l.rest;
  none : NoArrowBelow l.rest (l.seen - 1);
}

abbrev pub decreases-loop-more : goal.decreases-loop-more
decreases-loop-more l = length l.rest - l.seen
