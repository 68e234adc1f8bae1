use Rattle.std.proofs.Common.{◌≡◌, ◌+◌, ◌≤◌, List, length}
use Rattle.redodb_model.specs.Names.{Text}
use Rattle.redodb_model.specs.History.{Line}
use Rattle.redodb_log.specs.Logs.{Past}
use Rattle.redodb_log.specs.Support.Steps.{BeginsAfter, IsDoneUpTo}
use Rattle.redodb_log.proofs.restoring.restore_lines.Given as goal

abbrev pub invariant-lines : goal.invariant-lines
invariant-lines l =
    (l.count + length l.left ≤ length l.fn.lines)
    × ((past : Past) → BeginsAfter past l.fn.log l.fn.lines l.fn.live
    → (done : List (Line Text)) × IsDoneUpTo past l.fn.log done l.again.live l.left
    × (l.count ≡ length done))

abbrev pub decreases-lines : goal.decreases-lines
decreases-lines l = length l.left
