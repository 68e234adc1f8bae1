use Rattle.std.proofs.Common.{◌<◌, length, reverse}
use Rattle.redodb_model.specs.Renaming.{AllBelow}
use Rattle.redodb_memo.specs.NameSet.{size_of}
use Rattle.redodb_database.specs.Support.Search.{IsWay}
use Rattle.redodb_database.proofs.why.way_to.Given as goal

abbrev pub invariant-back : goal.invariant-back
invariant-back l = record {
  here : l.i < length l.seen.queue;
  below : AllBelow (size_of l.seen) (reverse l.way.items);
  way : IsWay l.seen.queue l.parents.items l.i l.place (reverse l.way.items);
}

abbrev pub decreases-back : goal.decreases-back
decreases-back l = l.i
