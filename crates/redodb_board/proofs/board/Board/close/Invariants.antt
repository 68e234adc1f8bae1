use Rattle.std.proofs.Common.{◌-◌, ◌≢◌, ℕ, ◌+◌, ◌<◌, ◌≤◌, get_or}
use Rattle.std.specs.Mem.Slots.{slots_items}
use Rattle.redodb_board.proofs.board.Board.close.Given as goal

abbrev pub invariant-loop-filled : goal.invariant-loop-filled
invariant-loop-filled l =
    (l.filled ≤ l.rows)
    × ((r : ℕ) → r < l.filled → get_or (slots_items l.closed.words) (r + 1) 0 ≢ 0)

abbrev pub decreases-loop-filled : goal.decreases-loop-filled
decreases-loop-filled l = l.rows - l.filled
