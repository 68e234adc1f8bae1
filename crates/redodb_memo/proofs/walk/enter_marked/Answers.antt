use Rattle.std.proofs.Common.{◌↔◌, ◌∙◌, IsTrue, sym, get_or}
use Rattle.std.specs.List.{Contains}
use Rattle.redodb_memo.specs.NameSet.{IsMarked, Enters}
use Rattle.redodb_memo.proofs.Marking.{enters_one_more}
use Rattle.redodb_model.proofs.Listing.{at_take_all}
use Rattle.redodb_memo.proofs.walk.enter_marked.Goals as goal

pub loop-t-preserved : goal.loop-t-preserved
loop-t-preserved c =
    let other = c.args.elsewhere.now in
    let names = c.args.names.now in
    let k = c.loop-t.t-index in
    let is : IsTrue c.contains-is_marked.result ↔ IsMarked other (get_or names k 0) =
    (λ h. sym c.contains-is_marked.ensures ∙ h, λ h. c.contains-is_marked.ensures ∙ h) in
    enters_one_more (IsMarked other) names k 0 c.contains-is_marked.result c.loop-t-test.true is
    c.loop-t.invariant c.enter_if.ensures

pub returns : goal.returns
returns c =
    let other = c.args.elsewhere.now in
    at_take_all
    (λ ns. Enters (λ t. IsMarked other t × Contains ns t) c.args.marks.now c.loop-t.marks)
    c.args.names.now c.loop-t.t-index c.loop-t-test.false c.loop-t.invariant
