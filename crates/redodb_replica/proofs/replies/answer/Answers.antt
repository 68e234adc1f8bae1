use Rattle.std.proofs.Common.{ℕ, refl, sym, subst}
use Rattle.std.specs.Prelude.{IfOk}
use Rattle.redodb_model.specs.Command.{Command}
use Rattle.redodb_model.specs.Reply.{Targets}
use Rattle.redodb_model.specs.Step.{Tells}
use Rattle.redodb_commands.specs.Meaning.{reply_of}
use Rattle.redodb_graph.specs.declared.step.Step.{Step}
use Rattle.redodb_graph.specs.Steps.{Means}
use Rattle.redodb_replica.specs.Replicas.{records_in}
use Rattle.redodb_replica.specs.Replies.{naming_in}
use Rattle.redodb_replica.proofs.Layouts.{laid_out}
use Rattle.redodb_replica.proofs.replies.answer.Goals as goal

pub targets-requires : goal.targets-requires
targets-requires c =
    laid_out c.args.graph.now c.args.cells.now c.args.rows.now c.requires.fit

pub sources-requires-clause-laid_out : goal.sources-requires-clause-laid_out
sources-requires-clause-laid_out c =
    laid_out c.args.graph.now c.args.cells.now c.args.rows.now c.requires.fit

pub returns-in-IfChange-clause-tells : goal.returns-in-IfChange-clause-tells
returns-in-IfChange-clause-tells c = λ x means.
    let g = c.args.graph.now in
    let rows = c.args.rows.now in
    let is = subst (λ (step : Step). Means g.tables step x) c.in-IfChange.is means in
    subst (λ (y : Command ℕ). IfOk c.stale_among.result (λ reply. Tells (naming_in g)
    (records_in g.tables c.args.cells.now rows) y (reply_of reply))) (sym is.1)
    (c.stale_among.ensures.tells c.in-IfChange.field-0 is.0 is.2)

pub returns-in-Ood-clause-tells : goal.returns-in-Ood-clause-tells
returns-in-Ood-clause-tells c = λ x means.
    let g = c.args.graph.now in
    let rows = c.args.rows.now in
    let is = subst (λ (step : Step). Means g.tables step x) c.in-Ood.is means in
    subst (λ (y : Command ℕ). IfOk c.ood_reply.result (λ reply. Tells (naming_in g)
    (records_in g.tables c.args.cells.now rows) y (reply_of reply))) (sym is)
    c.ood_reply.ensures.tells

pub returns-in_ok-targets-in-Targets-clause-tells
    : goal.returns-in_ok-targets-in-Targets-clause-tells
returns-in_ok-targets-in-Targets-clause-tells c = λ x means.
    let g = c.args.graph.now in
    let rows = c.args.rows.now in
    let names = c.in_ok-targets-in-Targets in
    let is = subst (λ (step : Step). Means g.tables step x) c.in-Targets.is means in
    subst (λ (y : Command ℕ). Tells (naming_in g) (records_in g.tables c.args.cells.now rows) y
    (Targets names.field-0.items)) (sym is)
    (names.field-0.items, (names.ensures rows).listed, refl)

pub returns-in_ok-targets-in-Targets-clause-below
    : goal.returns-in_ok-targets-in-Targets-clause-below
returns-in_ok-targets-in-Targets-clause-below c =
    (c.in_ok-targets-in-Targets.ensures c.args.rows.now).below
