use Rattle.std.proofs.Common.{◌≡◌, ◌≤◌, ◌*◌, map, take}
use Rattle.redodb_commands.specs.Support.Meaning.{item_of}
use Rattle.redodb_board.specs.Rows.{rows_in}
use Rattle.redodb_board.proofs.plan.rows_in.Given as goal

abbrev pub invariant-loop-item : goal.invariant-loop-item
invariant-loop-item l =
    (l.rows ≡ rows_in (map item_of (take l.item-index l.items)))
    × (l.rows ≤ 2 * l.item-index)
