use Rattle.std.proofs.Common.{subst, sym}
use Rattle.redodb_records.specs.Target.{Ascending}
use Rattle.redodb_records.proofs.Cleared.{blanked_ascends}
use Rattle.redodb_records.proofs.target.Target.clear.Goals as goal

pub invariant_of-self : goal.invariant_of-self
invariant_of-self c =
    subst Ascending (sym c.clear_each.ensures)
    (blanked_ascends c.self.inside.slots.items c.self.invariant)
