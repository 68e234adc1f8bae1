use Rattle.std.proofs.Common.{subst}
use Rattle.redodb_graph.specs.Graphs.{IsOnce}
use Rattle.redodb_graph.specs.Steps.{TablesOf}
use Rattle.redodb_graph.proofs.tables.Tables.digests.Goals as goal

pub returns-clause-once : goal.returns-clause-once
returns-clause-once c =
    subst (λ (tables : TablesOf). IsOnce tables.digests) c.self.view_is c.self.invariant.digest
