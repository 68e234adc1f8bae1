-- The value of a graph's fields.
use Rattle.std.specs.Prelude.{map}
use Rattle.redodb_graph.specs.declared.graph.Graph.TheInside.{Inside}
use Rattle.redodb_graph.specs.Graphs.{GraphOf}

abbrev pub graph_of : Inside → GraphOf
graph_of inside = record {
  steps = map (λ steps. steps.items) inside.steps.items;
  tables = inside.tables;
  on = inside.on;
  sorted = inside.sorted.items;
  ranks = inside.ranks.items;
}
