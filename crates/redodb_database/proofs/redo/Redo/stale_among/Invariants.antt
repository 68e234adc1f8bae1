use Rattle.std.proofs.Common.{ℕ, ◌↔◌, take}
use Rattle.std.specs.List.{Contains}
use Rattle.redodb_model.specs.OutOfDate.{IsStale}
use Rattle.redodb_database.specs.Tables.{tables_records}
use Rattle.redodb_database.proofs.redo.Redo.stale_among.Given as goal

abbrev pub invariant-loop-n : goal.invariant-loop-n
invariant-loop-n l =
    (n : ℕ) → Contains l.stale.items n
    ↔ (Contains (take l.n-index l.names) n × IsStale (tables_records l.fn.self) n)
