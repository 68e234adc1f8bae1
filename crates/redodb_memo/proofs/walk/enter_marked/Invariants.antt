use Rattle.std.proofs.Common.{take}
use Rattle.std.specs.List.{Contains}
use Rattle.redodb_memo.specs.NameSet.{IsMarked, Enters}
use Rattle.redodb_memo.proofs.walk.enter_marked.Given as goal

abbrev pub invariant-loop-t : goal.invariant-loop-t
invariant-loop-t l =
    Enters (λ u. IsMarked l.elsewhere u × Contains (take l.t-index l.names) u) l.fn.marks l.marks
