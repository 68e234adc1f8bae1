use Rattle.redodb_graph.specs.Support.Pairs.{AreStarts}
use Rattle.redodb_graph.proofs.once.starts_of.Given as goal

abbrev pub invariant-loop-first : goal.invariant-loop-first
invariant-loop-first l = AreStarts l.pairs l.first l.starts.items
