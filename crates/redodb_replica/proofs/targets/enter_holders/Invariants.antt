use Rattle.std.proofs.Common.{◌⊎◌, IsSome, IsTrue, take}
use Rattle.std.specs.List.{Contains}
use Rattle.redodb_memo.specs.NameSet.{Enters}
use Rattle.redodb_replica.specs.PairRows.{change_of}
use Rattle.redodb_replica.proofs.Walks.{Holds, targets_on}
use Rattle.redodb_replica.proofs.targets.enter_holders.Given as goal

abbrev pub invariant-loop-place : goal.invariant-loop-place
invariant-loop-place l =
    Enters (λ t. Holds l.graph l.cells l.rows l.n
    (λ row. IsSome (change_of row) ⊎ (IsTrue l.created × IsTrue row.created)) t
    × Contains (take l.place-index (targets_on l.graph.tables.pairs.items l.place-items)) t)
    l.fn.marks l.marks
