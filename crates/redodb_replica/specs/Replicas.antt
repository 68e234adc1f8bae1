-- The records that a replica has.
use Rattle.std.specs.Prelude.{◌≡◌, ℕ, List, length}
use Rattle.redodb_model.specs.Command.{Command}
use Rattle.redodb_model.specs.Renaming.{IsBelow}
use Rattle.redodb_model.specs.State.{Records}
use Rattle.redodb_journal.specs.Plans.{PlanOf}
use Rattle.redodb_graph.specs.declared.step.Step.{Step}
use Rattle.redodb_graph.specs.Graphs.{GraphOf, IsGraphOf}
use Rattle.redodb_graph.specs.Steps.{TablesOf, Means}
use Rattle.redodb_replica.specs.declared.rows.Row.{Row}
use Rattle.redodb_replica.specs.declared.cell.CompactCell.{CompactCell}
use Rattle.redodb_replica.specs.CompactCells.{cell_of, cell_at}
use Rattle.redodb_replica.specs.PairRows.{rows_of}

-- its graph, what is known of each name, the rows of each pair, and how many commands were applied
pub record ReplicaOf : Type 0 where
  pub graph : GraphOf
  pub cells : List CompactCell
  pub rows : List Row
  pub applied : ℕ

-- what the cells and rows say by the tables
abbrev pub records_in : TablesOf → List CompactCell → List Row → Records ℕ
records_in tables cells rows = record {
  cell = λ n. cell_of tables.stamps tables.digests (cell_at cells n);
  rows = rows_of tables.stamps tables.digests tables.pairs.items rows
      (λ t. (cell_at cells t).always);
}

abbrev pub records_of : ReplicaOf → Records ℕ
records_of replica = records_in replica.graph.tables replica.cells replica.rows

-- how many names there are
abbrev pub count_of : ReplicaOf → ℕ
count_of replica = length replica.cells

-- the step stands for a command with numbers below the count
abbrev pub IsStepBelow : TablesOf → ℕ → Step → Type 0
IsStepBelow tables count step = (x : Command ℕ) × Means tables step x × IsBelow count x

-- the graph of a plan with that many names
abbrev pub IsGraphFor : ℕ → GraphOf → Type 0
IsGraphFor names graph = (plan : PlanOf) × IsGraphOf plan graph × (length plan.names ≡ names)
