use Rattle.redodb_records.proofs.Listed.{slots_below}
use Rattle.redodb_records.proofs.Walked.{slots_read}
use Rattle.redodb_records.proofs.rows.DepRows.slots_of.Goals as goal

pub returns-clause-same : goal.returns-clause-same
returns-clause-same c =
    slots_read c.args.t c.self.view_is c.requires c.index.ensures c.slots.ensures.same

pub returns-clause-below : goal.returns-clause-below
returns-clause-below c =
    slots_below c.args.t c.self.view_is c.requires c.index.ensures c.slots.ensures.same
    c.self.invariant
