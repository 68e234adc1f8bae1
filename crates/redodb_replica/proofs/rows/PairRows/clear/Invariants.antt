use Rattle.redodb_replica.specs.PairRows.{IsCleared}
use Rattle.redodb_replica.proofs.rows.PairRows.clear.Given as goal

abbrev pub invariant-loop-place : goal.invariant-loop-place
invariant-loop-place l = IsCleared l.from l.place l.fn.self l.self-inside.rows.items
