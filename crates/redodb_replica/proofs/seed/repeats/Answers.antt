use Rattle.std.proofs.Common.{◌≡◌, ◌∙◌, Some, rules, sym, ap, subst}
use Rattle.redodb_graph.specs.declared.step.Step.{Step}
use Rattle.redodb_graph.specs.Steps.{Means}
use Rattle.redodb_replica.specs.declared.cell.CompactCell.{CompactCell}
use Rattle.redodb_replica.proofs.Seeds.{file_repeats}
use Rattle.redodb_replica.proofs.seed.repeats.Goals as goal

pub returns-in-File : goal.returns-in-File
returns-in-File c = λ yes tables rows s x means.
    let same : c.get.result.file ≡ Some c.in-File.stamp = search rules in
    file_repeats tables c.args.cells.now rows c.in-File.n c.in-File.stamp s x
    (ap (λ (cell : CompactCell). cell.file) (sym c.get.ensures) ∙ same)
    (subst (λ (step : Step). Means tables step x) c.in-File.is means)
