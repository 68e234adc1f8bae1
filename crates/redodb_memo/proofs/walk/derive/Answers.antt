use Rattle.redodb_memo.specs.Support.Regions.{EntersDue}
use Rattle.redodb_memo.proofs.Deriving.{due_more}
use Rattle.redodb_model.proofs.Listing.{at_take_all}
use Rattle.redodb_memo.proofs.walk.derive.Goals as goal

pub loop-t-preserved : goal.loop-t-preserved
loop-t-preserved g c =
    let r = g.D.Dependencies.records c.args.database.now in
    let m = c.loop-t in
    due_more r c.args.marks.now m.marks c.enter_due.new.marks c.args.names.now m.t-index 0
    c.loop-t-test.true m.invariant c.enter_due.ensures

pub returns : goal.returns
returns g c =
    let r = g.D.Dependencies.records c.args.database.now in
    at_take_all (λ ns. EntersDue r ns c.args.marks.now c.loop-t.marks)
    c.args.names.now c.loop-t.t-index c.loop-t-test.false c.loop-t.invariant
