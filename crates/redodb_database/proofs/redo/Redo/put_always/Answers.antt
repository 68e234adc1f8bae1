use Rattle.redodb_database.specs.Support.Kept.{tables_of}
use Rattle.redodb_database.proofs.Effects.{put_for_always}
use Rattle.redodb_database.proofs.Refreshing.{right_by_always, rows_refreshed}
use Rattle.redodb_database.proofs.redo.Redo.put_always.Goals as goal

pub invariant_of-self : goal.invariant_of-self
invariant_of-self c =
    let inside = c.self.inside in
    let building = rw (← c.self.view_is) at c.requires.building in
    rows_refreshed c.put_always.new.self c.self.invariant c.put_always.ensures.count
    (right_by_always inside.memo inside.records inside.rows c.args.t c.self.invariant.memo_right
    building c.put_always.new.self c.put_always.ensures.rows)

pub returns-clause-after : goal.returns-clause-after
returns-clause-after c s =
    rw (← c.self.view_is)
    (put_for_always (tables_of c.self.inside) c.args.t c.put_always.new.self s
    c.put_always.ensures.rows)
