use Rattle.std.proofs.Common.{◌≡◌, ℕ, ◌+◌, List, [], ◌∷◌, ◌++◌, length, map, take, arith, sym, ap, ◌∙◌}
use Rattle.std.proofs.lemmas.List.{take_more, map-append, length-map}
use Rattle.redodb_model.specs.Command as commands
use Rattle.redodb_commands.specs.Support.Meaning.{item_of}
use Rattle.redodb_commands.specs.declared.script.Item.{Item}
use Rattle.redodb_board.specs.Rows.{rows_in_all, rows_in}
use Rattle.redodb_board.proofs.Counts.{rows-push-all}
use Rattle.redodb_board.proofs.plan.rows.Goals as goal

pub overflow_add-rows : goal.overflow_add-rows
overflow_add-rows c =
    let a = c.loop-script.invariant.1 in
    let b = c.rows_in-rows.ensures.few in
    let d = c.items.ensures.few in
    let e = c.loop-script-test.true in
    let f = ap length c.scripts-script-items.ensures.scripts in
    let g = c.scripts-script-items.ensures.plan.few in
    let h =
    length-map c.scripts-script-items.result.now
    (λ (script : List Item). map item_of script) in
    let i = ap length c.items.ensures.items in
    omega arith

pub loop-script-preserved : goal.loop-script-preserved
loop-script-preserved c =
    let x = c.script-item.result in
    let xs = c.scripts-script-items.result.now in
    let i = c.loop-script.script-index in
    let f : List Item → List (commands.Item ℕ) = λ script. map item_of script in
    let first : map f (take (i + 1) xs) ≡ map f (take i xs) ++ f x ∷ [] =
    ap (map f)
    (take_more xs i x c.loop-script-test.true
    ∙ ap (λ y. take i xs ++ y ∷ []) (sym c.script-item.is))
    ∙ map-append f (take i xs) (x ∷ []) in
    let a = ap rows_in_all first in
    let b = rows-push-all (map f (take i xs)) (f x) in
    let same =
    ap (λ (ys : List Item). rows_in (map item_of ys)) c.items.ensures.items in
    let d = c.rows_in-rows.ensures.rows in
    let g = c.rows_in-rows.ensures.few in
    let h = ap length c.items.ensures.items in
    let k = c.items.ensures.few in
    let e = c.loop-script.invariant.0 in
    let m = c.loop-script.invariant.1 in
    (omega arith, omega arith)
