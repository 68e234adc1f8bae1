use Rattle.std.proofs.Common.{◌≡◌, length, map, take}
use Rattle.redodb_graph.specs.Support.Pairs.{AreBlocks}
use Rattle.redodb_graph.proofs.once.blocks_of.Given as goal

abbrev pub invariant-loop-pair : goal.invariant-loop-pair
invariant-loop-pair l = record {
  count : length l.blocks.items ≡ l.count;
  blocks : AreBlocks 0 (take l.pair-index l.pairs) (map (λ block. block.items) l.blocks.items);
}
