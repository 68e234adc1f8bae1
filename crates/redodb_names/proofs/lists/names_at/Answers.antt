use Rattle.redodb_names.proofs.Ranked.{named_more}
use Rattle.redodb_names.proofs.lists.names_at.Goals as goal

pub loop-k-preserved : goal.loop-k-preserved
loop-k-preserved c =
    rw c.in_ok-push.ensures.items
    (named_more c.args.sorted.now c.args.places.now c.loop-k.names.items c.loop-k.k-index
    c.loop-k-test.true c.loop-k.invariant)
