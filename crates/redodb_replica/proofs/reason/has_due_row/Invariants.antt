use Rattle.redodb_replica.specs.Support.News.{IsDueRow}
use Rattle.redodb_replica.proofs.Walks.{NoneBetween}
use Rattle.redodb_replica.proofs.reason.has_due_row.Given as goal

abbrev pub invariant-loop-place : goal.invariant-loop-place
invariant-loop-place l =
    NoneBetween l.graph.tables.pairs.items l.rows l.t (IsDueRow l.graph.tables l.cells l.marks)
    l.initial.place l.place
