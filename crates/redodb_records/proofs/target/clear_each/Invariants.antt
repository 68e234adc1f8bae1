use Rattle.std.proofs.Common.{◌≡◌, ◌++◌, take, drop}
use Rattle.redodb_records.specs.Support.Target.{blanked}
use Rattle.redodb_records.proofs.target.clear_each.Given as goal

abbrev pub invariant-loop-slot : goal.invariant-loop-slot
invariant-loop-slot l =
    l.slot-items ≡ blanked (take l.slot-index l.fn.slots.items)
    ++ drop l.slot-index l.fn.slots.items
