use Rattle.redodb_records.specs.Support.Kept.{has_created}
use Rattle.redodb_records.proofs.Listed.{inverse_some}
use Rattle.redodb_records.proofs.rows.DepRows.is_awaited.Goals as goal

pub returns : goal.returns
returns c =
    inverse_some has_created c.args.n c.has_any.result c.self.view_is c.requires c.index.ensures
    c.has_any.ensures c.self.invariant.awaits
