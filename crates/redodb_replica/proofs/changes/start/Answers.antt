use Rattle.std.proofs.Common.{List, sym, subst}
use Rattle.redodb_graph.specs.declared.step.Step.TheVariants as steps
use Rattle.redodb_replica.specs.declared.cell.CompactCell.{CompactCell}
use Rattle.redodb_replica.specs.Support.Changes.{HasEffect}
use Rattle.redodb_replica.specs.Support.Fits.{IsFit}
use Rattle.redodb_replica.proofs.Effects.{start_effect}
use Rattle.redodb_replica.proofs.Fitting.{rows_fit, cell_fits}
use Rattle.redodb_replica.proofs.changes.start.Goals as goal

pub returns-clause-effect : goal.returns-clause-effect
returns-clause-effect c =
    subst (λ (cells : List CompactCell). HasEffect c.args.graph.now.tables c.args.cells.now
    c.args.rows.now cells c.clear.new.rows c.args.s (steps.Start c.args.t)) (sym c.start.ensures)
    (start_effect c.args.graph.now.tables c.args.cells.now c.args.t c.requires.target
    c.args.rows.now c.clear.new.rows c.args.s c.clear.ensures)

pub returns-clause-fit : goal.returns-clause-fit
returns-clause-fit c = λ fit.
    let graph = c.args.graph.now in
    let cells : List CompactCell = c.args.cells.now in
    let rows = c.clear.new.rows in
    let cleared = rows_fit graph cells c.args.rows.now fit rows c.clear.ensures.sized
    (c.clear.ensures.marks fit.marks) in
    let old = fit.entries c.args.t in
    subst (λ (ss : List CompactCell). IsFit graph ss rows) (sym c.start.ensures)
    (cell_fits graph cells rows cleared c.args.t _ c.requires.target
    (record { file = old.file; done = old.done; digest = tt }))
