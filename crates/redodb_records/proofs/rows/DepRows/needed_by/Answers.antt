use Rattle.std.proofs.Common.{refl}
use Rattle.redodb_records.specs.Support.Kept.{has_change}
use Rattle.redodb_records.proofs.Listed.{inverse_below}
use Rattle.redodb_records.proofs.rows.DepRows.needed_by.Goals as goal

pub returns-clause-below : goal.returns-clause-below
returns-clause-below c =
    inverse_below has_change (λ k. refl) c.args.n c.self.view_is c.requires c.index.ensures
    c.places.ensures.items c.self.invariant.needs
