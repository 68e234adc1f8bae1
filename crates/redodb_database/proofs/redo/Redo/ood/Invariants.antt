use Rattle.std.proofs.Common.{take}
use Rattle.std.specs.List.{Contains}
use Rattle.redodb_model.specs.Names.{IsListed, by_number}
use Rattle.redodb_model.specs.OutOfDate.{HasFile}
use Rattle.redodb_database.specs.Tables.{tables_records}
use Rattle.redodb_database.proofs.redo.Redo.ood.Given as goal

abbrev pub invariant-loop-n : goal.invariant-loop-n
invariant-loop-n l =
    IsListed by_number
    (λ n. Contains (take l.n-index l.n-items) n × HasFile (tables_records l.fn.self) n)
    l.names.items
