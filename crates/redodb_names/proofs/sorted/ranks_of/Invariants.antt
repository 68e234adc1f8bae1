use Rattle.std.proofs.Common.{◌≡◌, length, take}
use Rattle.redodb_names.proofs.Ranked.{HaveRanks}
use Rattle.redodb_names.proofs.sorted.ranks_of.Given as goal

abbrev pub invariant-loop-k : goal.invariant-loop-k
invariant-loop-k l = record {
  sized : length l.ranks.items ≡ length l.sorted;
  each : HaveRanks (take l.k l.sorted) l.sorted l.ranks.items l.k;
}
