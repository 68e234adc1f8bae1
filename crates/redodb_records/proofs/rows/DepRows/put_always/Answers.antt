use Rattle.std.proofs.Common.{ap}
use Rattle.redodb_records.specs.Rows.{TargetRows}
use Rattle.redodb_records.proofs.Writing.{kept_always}
use Rattle.redodb_records.proofs.rows.DepRows.put_always.Goals as goal

pub invariant_of-self : goal.invariant_of-self
invariant_of-self c =
    kept_always c.args.t c.put_always.new.self c.self.view_is c.requires c.index_mut.ensures.value
    (ap (λ (x : TargetRows). x.slots) c.put_always.ensures) c.self.invariant
