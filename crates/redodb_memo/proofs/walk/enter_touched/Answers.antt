use Rattle.redodb_memo.specs.NameSet.{Enters}
use Rattle.redodb_model.proofs.Listing.{at_take_all}
use Rattle.redodb_memo.proofs.Spreading.{Touches, touches_more}
use Rattle.redodb_memo.proofs.walk.enter_touched.Goals as goal

pub loop-n-preserved : goal.loop-n-preserved
loop-n-preserved g c =
    touches_more (g.D.Dependencies.records c.args.database.now) c.args.seeds.now
    c.loop-n.n-index c.loop-n-test.true c.loop-n.invariant c.enter_holders.ensures

pub returns : goal.returns
returns g c =
    let r = g.D.Dependencies.records c.args.database.now in
    let seeds = c.args.seeds.now in
    at_take_all (λ ns. Enters (Touches r seeds ns) c.args.marks.now c.loop-n.marks)
    seeds c.loop-n.n-index c.loop-n-test.false c.loop-n.invariant
