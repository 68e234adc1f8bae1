use Rattle.std.proofs.Common.{◌≢◌, take}
use Rattle.std.specs.List.{Contains}
use Rattle.redodb_model.specs.State.{Idle}
use Rattle.redodb_records.specs.Cells.{cell_at}
use Rattle.redodb_records.specs.Numbers.{numbers_there}
use Rattle.redodb_memo.specs.NameSet.{Enters}
use Rattle.redodb_database.proofs.targets.enter_targets.Given as goal

abbrev pub invariant-loop-place : goal.invariant-loop-place
invariant-loop-place l =
    Enters (λ u. ((cell_at l.records u).state ≢ Idle)
    × Contains (numbers_there (take l.place-index l.places)) u) l.fn.marks l.marks
