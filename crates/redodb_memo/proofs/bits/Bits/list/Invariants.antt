use Rattle.std.proofs.Common.{◌*◌}
use Rattle.redodb_memo.specs.Support.Bits.{IsListedBelow}
use Rattle.redodb_memo.proofs.bits.Bits.list.Given as goal

abbrev pub invariant-loop-k : goal.invariant-loop-k
invariant-loop-k l = IsListedBelow l.self (l.k * 64) l.list.items
