use Rattle.std.proofs.Common.{ℕ, ◌<◌, get_or, length, arith}
use Rattle.std.proofs.lemmas.List.{get_or_default}
use Rattle.redodb_graph.proofs.ByName.{by_name_none, by_name_push}
use Rattle.redodb_graph.proofs.keys.by_name.Goals as goal

pub loop-place-init : goal.loop-place-init
loop-place-init c = rw c.in_ok-keys.ensures.items (by_name_none c.args.pairs.now)

pub loop-place-preserved : goal.loop-place-preserved
loop-place-preserved c =
    let pairs = c.args.pairs.now in
    let place = c.loop-place.place in
    let pair : ℕ × ℕ = get_or pairs place (0, 0) in
    let below : place < length pairs = omega arith in
    rw c.in_ok-push.ensures.items
    (by_name_push pairs c.loop-place.keys.items place pair c.loop-place.invariant below
    (get_or_default pairs place (0, 0) pair below))
