use Rattle.std.proofs.Common.{◌<◌, sym, subst}
use Rattle.redodb_board.proofs.Lines.{steps_long, line_means}
use Rattle.redodb_board.proofs.worker.words.line_step.Goals as goal

pub step-requires : goal.step-requires
step-requires c =
    let p = c.args.plan.now in
    let g = c.args.graph.now in
    subst (λ n. c.args.number < n) (sym (steps_long p g c.requires.graph c.args.session))
    c.requires.line

pub returns : goal.returns
returns c =
    line_means c.args.plan.now c.args.graph.now c.requires.graph c.args.session c.args.number
    c.step.result c.requires.line c.step.ensures
