use Rattle.std.proofs.Common.{◌+◌, take}
use Rattle.std.specs.List.{Contains}
use Rattle.redodb_memo.specs.NameSet.{Enters}
use Rattle.redodb_memo.proofs.Marking.{enters_then}
use Rattle.redodb_model.proofs.Listing.{at_take_all, one_more}
use Rattle.redodb_memo.proofs.walk.enter_each.Goals as goal

pub loop-n-preserved : goal.loop-n-preserved
loop-n-preserved c =
    let names = c.args.names.now in
    let k = c.loop-n.n-index in
    enters_then (Contains (take (k + 1) names)) (λ u. one_more names k 0 u c.loop-n-test.true)
    c.loop-n.invariant c.enter.ensures

pub returns : goal.returns
returns c =
    at_take_all (λ ns. Enters (Contains ns) c.args.marks.now c.loop-n.marks)
    c.args.names.now c.loop-n.n-index c.loop-n-test.false c.loop-n.invariant
