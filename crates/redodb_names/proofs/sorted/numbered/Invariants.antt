use Rattle.redodb_names.specs.Support.Numbered.{AreNumbered}
use Rattle.redodb_names.proofs.sorted.numbered.Given as goal

abbrev pub invariant-loop-n : goal.invariant-loop-n
invariant-loop-n l = AreNumbered l.names l.n l.pairs.items
