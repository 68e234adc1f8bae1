use Rattle.std.proofs.Common.{◌≡◌, ◌≤◌, ◌*◌, map, take}
use Rattle.redodb_model.specs.Support.Room.{room_of}
use Rattle.redodb_commands.specs.Support.Meaning.{item_of}
use Rattle.redodb_board.proofs.plan.room_for.Given as goal

abbrev pub invariant-loop-item : goal.invariant-loop-item
invariant-loop-item l =
    (l.room ≡ room_of (map item_of (take l.item-index l.items)))
    × (l.room ≤ 2 * l.item-index)
