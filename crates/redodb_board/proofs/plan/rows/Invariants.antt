use Rattle.std.proofs.Common.{◌≡◌, ◌≤◌, ◌*◌, map, take}
use Rattle.redodb_commands.specs.Support.Meaning.{item_of}
use Rattle.redodb_board.specs.Rows.{rows_in_all}
use Rattle.redodb_board.proofs.plan.rows.Given as goal

abbrev pub invariant-loop-script : goal.invariant-loop-script
invariant-loop-script l =
    (l.rows
    ≡ rows_in_all
    (map (λ script. map item_of script) (take l.script-index l.script-items)))
    × (l.rows ≤ 8192 * l.script-index)
