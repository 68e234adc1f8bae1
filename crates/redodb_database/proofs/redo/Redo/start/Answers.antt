use Rattle.std.proofs.Common.{IsTrue, refl, subst}
use Rattle.redodb_database.specs.Support.Kept.{tables_of}
use Rattle.redodb_database.proofs.Effects.{started}
use Rattle.redodb_database.proofs.Kept.{AreTables-set_cell, AreTables-set_rows}
use Rattle.redodb_database.proofs.Refreshing.{refreshed, right_by_start, was_right_by_start}
use Rattle.redodb_database.proofs.redo.Redo.start.Goals as goal

pub refresh_started-requires-clause-right : goal.refresh_started-requires-clause-right
refresh_started-requires-clause-right c =
    let inside = c.self.inside in
    rw c.start.ensures
    (was_right_by_start inside.memo inside.records inside.rows c.args.t
    c.self.invariant.memo_right _ c.clear.new.self c.clear.ensures.rows)

pub refresh_started-requires-clause-same : goal.refresh_started-requires-clause-same
refresh_started-requires-clause-same c out =
    let inside = c.self.inside in
    let below = rw (← c.self.view_is) at c.requires.number in
    rw c.start.ensures
    (right_by_start inside.memo inside.records inside.rows c.args.t
    c.self.invariant.memo_right _ c.clear.new.self c.clear.ensures.rows below refl refl
    (subst IsTrue c.is-was_out.ensures out))

pub invariant_of-self : goal.invariant_of-self
invariant_of-self c =
    let kept = c.self.invariant.tables in
    let tables = tables_of c.self.inside in
    refreshed c.start.new.self c.clear.new.self c.self.invariant
    (rw c.start.ensures
    (AreTables-set_rows _ c.clear.new.self
    (AreTables-set_cell tables c.args.t _ kept (kept.few_builds c.args.t)) c.clear.ensures.count))
    c.refresh_started.ensures.count c.refresh_started.ensures.right

pub returns-clause-after : goal.returns-clause-after
returns-clause-after c =
    let t = c.args.t in
    let below = rw (← c.self.view_is) at c.requires.number in
    rw (c.start.ensures, ← c.self.view_is)
    (started (tables_of c.self.inside) t c.clear.new.self c.args.s below c.clear.ensures.rows)
