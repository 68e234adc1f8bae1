use Rattle.std.proofs.Common.{◌≡◌, ℕ, ◌+◌, ◌≤◌, List, [], ◌∷◌, ◌++◌, Bool, cond, map, take, arith, sym, ap, ◌∙◌}
use Rattle.std.specs.List.{count_by}
use Rattle.std.proofs.lemmas.List.{take_more, map-append, length_push}
use Rattle.std.proofs.lemmas.List.Sums.{sum_by_push}
use Rattle.redodb_model.specs.Command as commands
use Rattle.redodb_model.specs.Command.{Command}
use Rattle.redodb_model.specs.Support.Room.{is_lock, is_start, room_of}
use Rattle.redodb_commands.specs.Meaning.{command_of}
use Rattle.redodb_commands.specs.Support.Meaning.{item_of}
use Rattle.redodb_board.proofs.plan.room_for.Goals as goal

abbrev one_for : Command ℕ → ℕ
one_for x = 1 + cond (is_lock x) 1 0 + cond (is_start x) 1 0

-- no command both locks and starts
two_most : (x : Command ℕ) → one_for x ≤ 2
two_most x = grind arith

count_push : {X : Type 0} (test : X → Bool) (xs : List X) (x : X)
    → count_by test (xs ++ x ∷ []) ≡ count_by test xs + cond (test x) 1 0
count_push test xs x =
    sum_by_push (λ y. cond (test y) 1 0) xs x

room_push : (xs : List (commands.Item ℕ)) (x : commands.Item ℕ)
    → room_of (xs ++ x ∷ []) ≡ room_of xs + one_for x.command
room_push xs x =
    let a = count_push (λ (item : commands.Item ℕ). is_lock item.command) xs x in
    let b = count_push (λ (item : commands.Item ℕ). is_start item.command) xs x in
    let d = length_push xs x in
    omega arith

pub overflow_add-room : goal.overflow_add-room
overflow_add-room c =
    let a = two_most (command_of c.item-item.result.command) in
    let b = c.entries_for-room.ensures in
    omega (arith, c.loop-item.invariant.1, c.loop-item-test.true, c.requires)

pub loop-item-preserved : goal.loop-item-preserved
loop-item-preserved c =
    let x = c.item-item.result in
    let xs = c.args.items.now in
    let i = c.loop-item.item-index in
    let first : map item_of (take (i + 1) xs) ≡ map item_of (take i xs) ++ item_of x ∷ [] =
    ap (map item_of)
    (take_more xs i x c.loop-item-test.true
    ∙ ap (λ y. take i xs ++ y ∷ []) (sym c.item-item.is))
    ∙ map-append item_of (take i xs) (x ∷ []) in
    let a = ap room_of first in
    let b = room_push (map item_of (take i xs)) (item_of x) in
    let d = c.entries_for-room.ensures in
    let e = c.loop-item.invariant.0 in
    let f = c.loop-item.invariant.1 in
    let g = two_most (command_of x.command) in
    (omega arith, omega arith)
