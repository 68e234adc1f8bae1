-- The order of the names in replies, and which replies list names.
use Rattle.std.specs.Prelude.{ℕ, Bool, true, false}
use Rattle.redodb_model.specs.Command.{Command, IfChange, Ood, Targets, Sources}
use Rattle.redodb_model.specs.Names.{Naming, numbers}
use Rattle.redodb_names.specs.Orders.{by_place}
use Rattle.redodb_graph.specs.Graphs.{GraphOf}

-- names as numbers, in the graph's order
abbrev pub naming_in : GraphOf → Naming ℕ
naming_in graph = numbers (by_place graph.sorted)

-- whether the reply to a command lists names, if it isn't refused: that allocates
abbrev pub lists_names : Command ℕ → Bool
lists_names (IfChange t ns) = true
lists_names Ood = true
lists_names Targets = true
lists_names Sources = true
lists_names command = false
