use Rattle.std.proofs.Common.{◌<◌, sym, subst, arith}
use Rattle.redodb_records.specs.Cells.{cell_at}
use Rattle.redodb_database.specs.Support.Tables.{HasCallsLeft}
use Rattle.redodb_database.specs.Support.Kept.{tables_of}
use Rattle.redodb_database.proofs.Refreshing.{cell_refreshed, due_by_cell}
use Rattle.redodb_database.proofs.redo.Redo.done.Goals as goal

pub refresh-requires-clause-right : goal.refresh-requires-clause-right
refresh-requires-clause-right c =
    due_by_cell c.self.invariant c.args.t _ c.done.ensures

pub invariant_of-self : goal.invariant_of-self
invariant_of-self c =
    let left : HasCallsLeft (tables_of c.self.inside) =
    subst HasCallsLeft (sym c.self.view_is) c.requires.left in
    let fewer : (cell_at c.self.inside.records c.args.t).builds < c.self.inside.calls =
    left.builds c.args.t in
    cell_refreshed c.self.invariant c.args.t _ c.done.ensures (omega arith) c.refresh.ensures.count
    c.refresh.ensures.right
