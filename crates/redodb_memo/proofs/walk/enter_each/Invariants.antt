use Rattle.std.proofs.Common.{take}
use Rattle.std.specs.List.{Contains}
use Rattle.redodb_memo.specs.NameSet.{Enters}
use Rattle.redodb_memo.proofs.walk.enter_each.Given as goal

abbrev pub invariant-loop-n : goal.invariant-loop-n
invariant-loop-n l = Enters (Contains (take l.n-index l.names)) l.fn.marks l.marks
