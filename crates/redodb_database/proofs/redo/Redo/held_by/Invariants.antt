use Rattle.std.proofs.Common.{◌≡◌, take}
use Rattle.std.specs.List.{filter}
use Rattle.redodb_model.specs.Step.{is_held_by}
use Rattle.redodb_database.specs.Tables.{locks_of}
use Rattle.redodb_database.proofs.redo.Redo.held_by.Given as goal

abbrev pub invariant-loop-t : goal.invariant-loop-t
invariant-loop-t l =
    l.held.items
    ≡ filter (λ t. is_held_by l.session ((locks_of l.self).holder t)) (take l.t-index l.t-items)
