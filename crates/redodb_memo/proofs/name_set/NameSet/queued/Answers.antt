use Rattle.std.proofs.Common.{◌<◌, length, sym, subst}
use Rattle.redodb_memo.specs.NameSet.{Marked, IsQueued, size_of}
use Rattle.redodb_memo.specs.Support.KeptNames.{marked_of}
use Rattle.redodb_memo.proofs.Marking.{marked_below}
use Rattle.redodb_memo.proofs.name_set.NameSet.queued.Goals as goal

pub returns-clause-below : goal.returns-clause-below
returns-clause-below c =
    let m : Marked = marked_of c.self.inside in
    let n = c.index.result.now in
    let k = c.args.k in
    let in' = subst (λ (q : Marked). k < length q.queue) (sym c.self.view_is) c.requires in
    let here : IsQueued m n = (k, in', sym c.index.ensures) in
    let below = marked_below m.marks n (c.self.invariant.queue.marked n here) in
    subst (λ (q : Marked). n < size_of q) c.self.view_is below
