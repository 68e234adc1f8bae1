use Rattle.std.proofs.Common.{◌<◌}
use Rattle.redodb_model.specs.Names.{IsListed, by_number}
use Rattle.redodb_model.specs.OutOfDate.{HasFile, IsTarget}
use Rattle.redodb_database.specs.Tables.{tables_records}
use Rattle.redodb_database.proofs.redo.Redo.targets.Given as goal

abbrev pub invariant-loop-n : goal.invariant-loop-n
invariant-loop-n l =
    let r = tables_records l.fn.self in
    IsListed by_number (λ n. (n < l.n) × (HasFile r n × IsTarget r n)) l.names.items
