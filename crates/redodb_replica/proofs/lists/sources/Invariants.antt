use Rattle.std.proofs.Common.{ℕ}
use Rattle.redodb_model.specs.OutOfDate.{HasRow}
use Rattle.redodb_names.proofs.Listed.{AreFirst}
use Rattle.redodb_replica.specs.Replicas.{records_in}
use Rattle.redodb_replica.specs.Support.Lists.{HasFileIn, IsIdleIn}
use Rattle.redodb_replica.proofs.lists.sources.Given as goal

abbrev pub invariant-loop-n : goal.invariant-loop-n
invariant-loop-n l =
    AreFirst l.graph.sorted (λ n. IsIdleIn l.cells n × HasFileIn l.cells n
    × ((t : ℕ) × HasRow (records_in l.graph.tables l.cells l.rows) t n)) l.n-items l.n-index
    l.names.items
