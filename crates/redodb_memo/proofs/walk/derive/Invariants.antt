use Rattle.std.proofs.Common.{take}
use Rattle.redodb_memo.specs.Support.Regions.{EntersDue}
use Rattle.redodb_memo.proofs.walk.derive.Given as goal

abbrev pub invariant-loop-t : goal.invariant-loop-t
invariant-loop-t g l =
    EntersDue (g.D.Dependencies.records l.database) (take l.t-index l.names) l.fn.marks l.marks
