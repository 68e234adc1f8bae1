use Rattle.std.proofs.Common.{◌≡◌, length, map}
use Rattle.redodb_graph.specs.Support.Pairs.{AreBlocks}
use Rattle.redodb_graph.proofs.Gathered.{ArePut}
use Rattle.redodb_graph.proofs.once.each_once.Given as goal

abbrev pub invariant-loop-first : goal.invariant-loop-first
invariant-loop-first l = record {
  count : length l.blocks.items ≡ l.count;
  left : AreBlocks l.first l.listed (map (λ block. block.items) l.blocks.items);
  put : ArePut l.first l.listed l.pairs.items;
}
