use Rattle.std.proofs.Common.{◌≡◌, ◌∙◌, ℕ, List, length, sym, ap, subst, arith}
use Rattle.std.proofs.lemmas.Grind.{common_steps}
use Rattle.redodb_model.specs.Step.{effect_of}
use Rattle.redodb_records.specs.Rows.{by_number}
use Rattle.redodb_graph.specs.Steps.{TablesOf}
use Rattle.redodb_graph.specs.declared.step.Step.{Step}
use Rattle.redodb_replica.specs.declared.cell.CompactCell.{CompactCell}
use Rattle.redodb_replica.specs.declared.rows.Row.{Row}
use Rattle.redodb_replica.specs.Replicas.{records_in}
use Rattle.redodb_replica.specs.Support.Changes.{HasEffect, IsReady}
use Rattle.redodb_replica.proofs.Effects.{done_effect, failed_effect, file_effect, gone_effect, stamp_effect}
use Rattle.redodb_replica.proofs.Listed.{listed_places}
use Rattle.redodb_replica.proofs.changes.obey.Goals as goal

pub returns-in-IfChange-clause-effect : goal.returns-in-IfChange-clause-effect
returns-in-IfChange-clause-effect c =
    subst (HasEffect c.args.graph.now.tables c.args.cells.now c.args.rows.now c.args.cells.now
    c.change_each.new.rows c.args.s) (sym c.in-IfChange.is) (λ x means.
    c.change_each.ensures.after c.in-IfChange.field-0 means.0
    (listed_places c.args.graph.now.tables c.in-IfChange.field-0 means.0 c.in-IfChange.list
    c.listed.result.now c.listed.ensures means.2) c.args.s
    ∙ ap (effect_of by_number
    (records_in c.args.graph.now.tables c.args.cells.now c.args.rows.now) c.args.s) (sym means.1))

pub returns-in-IfCreate-clause-effect : goal.returns-in-IfCreate-clause-effect
returns-in-IfCreate-clause-effect c =
    subst (HasEffect c.args.graph.now.tables c.args.cells.now c.args.rows.now c.args.cells.now
    c.create_each.new.rows c.args.s) (sym c.in-IfCreate.is) (λ x means.
    c.create_each.ensures.after c.args.cells.now c.in-IfCreate.field-0 means.0
    (listed_places c.args.graph.now.tables c.in-IfCreate.field-0 means.0 c.in-IfCreate.list
    c.listed-in-IfCreate.result.now c.listed-in-IfCreate.ensures means.2) c.args.s
    ∙ ap (effect_of by_number
    (records_in c.args.graph.now.tables c.args.cells.now c.args.rows.now) c.args.s) (sym means.1))

-- a step that writes cells has its effect
obeyed : (tables : TablesOf) (cells : List CompactCell) (rows : List Row) (s : ℕ)
    {step coded : Step} {new written : List CompactCell} → step ≡ coded → new ≡ written
    → IsReady tables (length cells) step
    → (IsReady tables (length cells) coded → (rows : List Row) (s : ℕ)
    → HasEffect tables cells rows written rows s coded)
    → HasEffect tables cells rows new rows s step
obeyed tables cells rows s is wrote ready effect =
    subst (λ (x : Step × List CompactCell). HasEffect tables cells rows x.1 rows s x.0)
    (λ i. (sym is i, sym wrote i))
    (effect (subst (IsReady tables (length cells)) is ready) rows s)

pub returns-in-Stamp-clause-effect : goal.returns-in-Stamp-clause-effect
returns-in-Stamp-clause-effect c =
    obeyed c.args.graph.now.tables c.args.cells.now c.args.rows.now c.args.s c.in-Stamp.is
    c.stamp.ensures c.requires.ready (λ below rows s.
    stamp_effect c.args.graph.now.tables c.args.cells.now c.in-Stamp.t below rows s c.in-Stamp.digest)

pub returns-in-Done-clause-effect : goal.returns-in-Done-clause-effect
returns-in-Done-clause-effect c =
    obeyed c.args.graph.now.tables c.args.cells.now c.args.rows.now c.args.s c.in-Done.is
    c.done.ensures c.requires.ready (λ below rows s.
    done_effect c.args.graph.now.tables c.args.cells.now c.in-Done.t below rows s c.in-Done.stamp)

pub returns-in-Always-clause-effect : goal.returns-in-Always-clause-effect
returns-in-Always-clause-effect c = grind (arith, common_steps)

pub returns-in-File-clause-effect : goal.returns-in-File-clause-effect
returns-in-File-clause-effect c =
    obeyed c.args.graph.now.tables c.args.cells.now c.args.rows.now c.args.s c.in-File.is
    c.set_file.ensures c.requires.ready (λ below rows s.
    file_effect c.args.graph.now.tables c.args.cells.now c.in-File.n below rows s c.in-File.stamp)

pub returns-in-Gone-clause-effect : goal.returns-in-Gone-clause-effect
returns-in-Gone-clause-effect c =
    obeyed c.args.graph.now.tables c.args.cells.now c.args.rows.now c.args.s c.in-Gone.is
    c.set_file-in-Gone.ensures c.requires.ready
    (gone_effect c.args.graph.now.tables c.args.cells.now c.in-Gone.n)

pub returns-in-Failed-clause-effect : goal.returns-in-Failed-clause-effect
returns-in-Failed-clause-effect c =
    obeyed c.args.graph.now.tables c.args.cells.now c.args.rows.now c.args.s c.in-Failed.is
    c.failed.ensures c.requires.ready
    (failed_effect c.args.graph.now.tables c.args.cells.now c.in-Failed.t)

pub returns-in-Start-clause-effect : goal.returns-in-Start-clause-effect
returns-in-Start-clause-effect c =
    subst (HasEffect c.args.graph.now.tables c.args.cells.now c.args.rows.now c.start.new.cells
    c.start.new.rows c.args.s) (sym c.in-Start.is) c.start.ensures.effect
