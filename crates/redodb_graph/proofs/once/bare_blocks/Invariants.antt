use Rattle.std.proofs.Common.{◌≡◌, length, map}
use Rattle.redodb_graph.proofs.Gathered.{AreBare}
use Rattle.redodb_graph.proofs.once.bare_blocks.Given as goal

abbrev pub invariant-loop : goal.invariant-loop
invariant-loop l = record {
  count : length l.blocks.items ≡ l.counter;
  bare : AreBare (map (λ block. block.items) l.blocks.items);
}
