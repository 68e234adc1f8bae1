use Rattle.std.proofs.Common.{◌≡◌, ℕ, List, drop}
use Rattle.std.specs.Prelude.{find}
use Rattle.redodb_model.specs.State.{has_file}
use Rattle.redodb_graph.specs.Steps.{AreListed}
use Rattle.redodb_replica.specs.declared.rows.Row.{Row}
use Rattle.redodb_replica.specs.Replicas.{records_in}
use Rattle.redodb_replica.proofs.verdict.existing.Given as goal

abbrev pub invariant-loop-place : goal.invariant-loop-place
invariant-loop-place l = (rows : List Row) (t : ℕ) (names : List ℕ)
    → AreListed l.graph.tables t names l.list
    → find (has_file (records_in l.graph.tables l.cells rows)) (drop l.place-index names)
    ≡ find (has_file (records_in l.graph.tables l.cells rows)) names
