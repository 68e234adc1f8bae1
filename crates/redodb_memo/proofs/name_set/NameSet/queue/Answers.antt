use Rattle.std.proofs.Common.{sym, subst}
use Rattle.redodb_model.specs.Renaming.{AllBelow}
use Rattle.redodb_memo.specs.NameSet.{Marked, size_of}
use Rattle.redodb_memo.specs.Support.KeptNames.{marked_of}
use Rattle.redodb_memo.proofs.Marking.{queue_below}
use Rattle.redodb_memo.proofs.name_set.NameSet.queue.Goals as goal

pub returns-clause-below : goal.returns-clause-below
returns-clause-below c =
    let m : Marked = marked_of c.self.inside in
    let below = subst (λ (k : Marked). AllBelow (size_of k) m.queue) c.self.view_is
    (queue_below m c.self.invariant.queue) in
    subst (AllBelow (size_of c.args.self.now)) (sym c.deref.ensures.value) below
