use Rattle.std.proofs.Common.{drop}
use Rattle.redodb_records.specs.Support.Kept.{has_change, has_created}
use Rattle.redodb_records.proofs.Forgetting.{IsTakenOut, slots_at}
use Rattle.redodb_records.proofs.inverse.forget.Given as goal

abbrev pub invariant-loop-slot : goal.invariant-loop-slot
invariant-loop-slot l =
    let rest = drop l.slot-index (slots_at l.targets.items l.t) in
    record {
      needs : IsTakenOut has_change l.targets.items l.t rest l.fn.needed.items l.needed.items;
      awaits : IsTakenOut has_created l.targets.items l.t rest l.fn.awaited.items l.awaited.items;
    }
