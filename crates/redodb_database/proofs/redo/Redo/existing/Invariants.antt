use Rattle.std.proofs.Common.{◌≡◌, drop}
use Rattle.std.specs.List.{find}
use Rattle.redodb_model.specs.State.{has_file}
use Rattle.redodb_database.specs.Tables.{tables_records}
use Rattle.redodb_database.proofs.redo.Redo.existing.Given as goal

abbrev pub invariant-loop-n : goal.invariant-loop-n
invariant-loop-n l =
    find (has_file (tables_records l.self)) (drop l.n-index l.names)
    ≡ find (has_file (tables_records l.self)) l.names
