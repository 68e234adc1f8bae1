use Rattle.std.proofs.Common.{◌∙◌, Some, None, option_map, refl, ap}
use Rattle.redodb_commands.specs.Meaning.{refusal_of}
use Rattle.redodb_commands.specs.declared.kind.Kind.{Kind}
use Rattle.redodb_records.specs.Refusals.{refusal_by_target}
use Rattle.redodb_replica.specs.declared.cell.CompactCell.{CompactCell}
use Rattle.redodb_replica.specs.CompactCells.{compact_state_of}
use Rattle.redodb_replica.specs.Replicas.{records_in}
use Rattle.redodb_replica.proofs.Verdicts.{verdict_by_parts}
use Rattle.redodb_replica.proofs.verdict.verdict.Goals as goal

pub returns-in-Some-refusal : goal.returns-in-Some-refusal
returns-in-Some-refusal c = λ rows x means.
    verdict_by_parts c.args.graph.now.tables
    (records_in c.args.graph.now.tables c.args.cells.now rows) c.args.s c.args.holds
    c.args.step.now x c.in-Some.t (Some (refusal_of c.in-Some-refusal.refusal)) _ means
    c.in-Some.ensures
    (c.in-Some-refusal.ensures
    ∙ ap (λ (y : CompactCell). refusal_by_target (compact_state_of y.state) c.args.s c.args.holds
    c.kind_of.result) c.get.ensures
    ∙ ap (λ (k : Kind). refusal_by_target ((records_in c.args.graph.now.tables c.args.cells.now
    rows).cell c.in-Some.t).state c.args.s c.args.holds k) c.kind_of.ensures)
    refl

pub returns-in-None-refusal : goal.returns-in-None-refusal
returns-in-None-refusal c = λ rows x means.
    verdict_by_parts c.args.graph.now.tables
    (records_in c.args.graph.now.tables c.args.cells.now rows) c.args.s c.args.holds
    c.args.step.now x c.in-Some.t None (option_map refusal_of c.refusal_by_names.result) means
    c.in-Some.ensures
    (c.in-None-refusal.ensures
    ∙ ap (λ (y : CompactCell). refusal_by_target (compact_state_of y.state) c.args.s c.args.holds
    c.kind_of.result) c.get.ensures
    ∙ ap (λ (k : Kind). refusal_by_target ((records_in c.args.graph.now.tables c.args.cells.now
    rows).cell c.in-Some.t).state c.args.s c.args.holds k) c.kind_of.ensures)
    (c.refusal_by_names.ensures rows x means)
