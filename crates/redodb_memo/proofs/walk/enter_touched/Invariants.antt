use Rattle.std.proofs.Common.{take}
use Rattle.redodb_memo.specs.NameSet.{Enters}
use Rattle.redodb_memo.proofs.Spreading.{Touches}
use Rattle.redodb_memo.proofs.walk.enter_touched.Given as goal

abbrev pub invariant-loop-n : goal.invariant-loop-n
invariant-loop-n g l =
    Enters (Touches (g.D.Dependencies.records l.database) l.seeds (take l.n-index l.seeds))
    l.fn.marks l.marks
