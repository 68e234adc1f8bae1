use Rattle.std.proofs.Common.{◌≡◌, length}
use Rattle.redodb_records.specs.Support.Kept.{AreEmpty}
use Rattle.redodb_records.proofs.made.empty_lists.Given as goal

abbrev pub invariant-fill : goal.invariant-fill
invariant-fill l = record {
  count : length l.lists.items ≡ l.counter;
  empty : AreEmpty l.lists.items;
}
