use Rattle.std.proofs.Common.{◌≡◌, ◌+◌, [], ◌∷◌, ◌++◌, map, take, arith, sym, ap, ◌∙◌}
use Rattle.std.proofs.lemmas.List.{take_more, map-append}
use Rattle.redodb_commands.specs.Meaning.{command_of}
use Rattle.redodb_commands.specs.Support.Meaning.{item_of}
use Rattle.redodb_board.specs.Rows.{rows_in}
use Rattle.redodb_board.proofs.Counts.{rows-push, rows-small}
use Rattle.redodb_board.proofs.plan.rows_in.Goals as goal

pub overflow_add-rows : goal.overflow_add-rows
overflow_add-rows c =
    let a = rows-small (command_of c.item-item.result.command) in
    omega (arith, c.needs-rows.ensures, c.loop-item.invariant.1, c.loop-item-test.true, c.requires)

pub loop-item-preserved : goal.loop-item-preserved
loop-item-preserved c =
    let x = c.item-item.result in
    let xs = c.args.items.now in
    let i = c.loop-item.item-index in
    let first : map item_of (take (i + 1) xs) ≡ map item_of (take i xs) ++ item_of x ∷ [] =
    ap (map item_of)
    (take_more xs i x c.loop-item-test.true
    ∙ ap (λ y. take i xs ++ y ∷ []) (sym c.item-item.is))
    ∙ map-append item_of (take i xs) (x ∷ []) in
    let a = ap rows_in first in
    let b = rows-push (map item_of (take i xs)) (item_of x) in
    let d = c.needs-rows.ensures in
    let e = c.loop-item.invariant.0 in
    let f = c.loop-item.invariant.1 in
    let g = rows-small (command_of x.command) in
    (omega arith, omega arith)
