use Rattle.redodb_replica.proofs.Layouts.{laid_out}
use Rattle.redodb_replica.proofs.replies.ood_reply.Goals as goal

pub ood-requires-clause-laid_out : goal.ood-requires-clause-laid_out
ood-requires-clause-laid_out c =
    laid_out c.args.graph.now c.args.cells.now c.args.rows.now c.requires.fit
