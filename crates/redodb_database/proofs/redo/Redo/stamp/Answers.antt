use Rattle.redodb_database.proofs.Refreshing.{cell_refreshed, due_by_cell}
use Rattle.redodb_database.proofs.redo.Redo.stamp.Goals as goal

pub refresh-requires-clause-right : goal.refresh-requires-clause-right
refresh-requires-clause-right c =
    due_by_cell c.self.invariant c.args.t _ c.stamp.ensures

pub invariant_of-self : goal.invariant_of-self
invariant_of-self c =
    cell_refreshed c.self.invariant c.args.t _ c.stamp.ensures
    (c.self.invariant.tables.few_builds c.args.t) c.refresh.ensures.count c.refresh.ensures.right
