use Rattle.redodb_graph.specs.Support.Named.{AreByName}
use Rattle.redodb_graph.proofs.keys.by_name.Given as goal

abbrev pub invariant-loop-place : goal.invariant-loop-place
invariant-loop-place l = AreByName l.pairs l.place l.keys.items
