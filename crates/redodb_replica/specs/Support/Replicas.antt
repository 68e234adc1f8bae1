-- The invariant of a replica.
use Rattle.redodb_replica.specs.Replicas.{ReplicaOf}
use Rattle.redodb_replica.specs.Support.Changes.{AreBuilt}
use Rattle.redodb_replica.specs.Support.Fits.{IsFit}
use Rattle.redodb_replica.specs.Support.Memos.{MemoOf, IsMemoOf}

-- the graph, cells and rows fit, no name was built more often than commands were applied, and the
-- memo has exactly the targets that were out of date before the seeds changed
pub record IsKept (replica : ReplicaOf) (memo : MemoOf) : Type 0 where
  pub fit : IsFit replica.graph replica.cells replica.rows
  pub builds : AreBuilt replica.applied replica.cells
  pub remembered : IsMemoOf replica.graph.tables replica.cells replica.rows memo
