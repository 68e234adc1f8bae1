use Rattle.std.proofs.Common.{◌≡◌, length, take}
use Rattle.redodb_memo.specs.Bits.{IsSet}
use Rattle.redodb_names.proofs.Ranked.{PlacesOf}
use Rattle.redodb_replica.specs.Support.Lists.{HasFileIn}
use Rattle.redodb_replica.proofs.lists.ood_places.Given as goal

abbrev pub invariant-loop-n : goal.invariant-loop-n
invariant-loop-n l = record {
  sized : length l.places ≡ length l.graph.sorted;
  placed : PlacesOf l.graph.sorted (HasFileIn l.cells) (take l.n-index l.n-items) (IsSet l.places);
}
