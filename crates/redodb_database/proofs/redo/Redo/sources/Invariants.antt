use Rattle.std.proofs.Common.{◌<◌}
use Rattle.redodb_model.specs.Names.{IsListed, by_number}
use Rattle.redodb_model.specs.OutOfDate.{IsSource}
use Rattle.redodb_database.specs.Tables.{tables_records}
use Rattle.redodb_database.proofs.redo.Redo.sources.Given as goal

abbrev pub invariant-loop-n : goal.invariant-loop-n
invariant-loop-n l =
    IsListed by_number (λ n. (n < l.n) × IsSource (tables_records l.fn.self) n) l.names.items
