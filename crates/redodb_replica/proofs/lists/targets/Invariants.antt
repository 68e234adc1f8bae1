use Rattle.redodb_names.proofs.Listed.{AreFirst}
use Rattle.redodb_replica.specs.Support.Lists.{HasFileIn, IsTargetIn}
use Rattle.redodb_replica.proofs.lists.targets.Given as goal

abbrev pub invariant-loop-n : goal.invariant-loop-n
invariant-loop-n l =
    AreFirst l.graph.sorted (λ n. HasFileIn l.cells n × IsTargetIn l.cells n) l.n-items l.n-index
    l.names.items
