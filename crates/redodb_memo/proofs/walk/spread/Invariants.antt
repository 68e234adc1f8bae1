use Rattle.std.proofs.Common.{◌≤◌, ◌-◌, length, take}
use Rattle.redodb_memo.specs.NameSet.{size_of}
use Rattle.redodb_memo.specs.Support.Regions.{Spreads}
use Rattle.redodb_memo.proofs.walk.spread.Given as goal

abbrev pub invariant-names : goal.invariant-names
invariant-names g l = record {
  spreads : Spreads (g.D.Dependencies.records l.database) (take l.next l.marks.queue)
      l.fn.marks l.marks;
  done : l.next ≤ length l.marks.queue;
}

abbrev pub decreases-names : goal.decreases-names
decreases-names g l = size_of l.marks - l.next
