use Rattle.redodb_database.proofs.Refreshing.{right_by_changes, rows_refreshed}
use Rattle.redodb_database.proofs.redo.Redo.put_changes.Goals as goal

pub invariant_of-self : goal.invariant_of-self
invariant_of-self c =
    let inside = c.self.inside in
    let building = rw (← c.self.view_is) at c.requires.building in
    rows_refreshed c.change_each.new.rows c.self.invariant c.change_each.ensures.count
    (right_by_changes inside.memo inside.records inside.rows c.args.t c.self.invariant.memo_right
    building c.change_each.ensures.after)

pub returns-clause-after : goal.returns-clause-after
returns-clause-after c s = rw (← c.self.view_is) (c.change_each.ensures.after.effect s)
