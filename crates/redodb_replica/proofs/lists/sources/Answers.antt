use Rattle.std.proofs.Common.{length, arith}
use Rattle.redodb_model.specs.OutOfDate.{IsSource}
use Rattle.redodb_names.proofs.Listed.{number_below, first_more, first_all}
use Rattle.redodb_replica.specs.Replicas.{records_in}
use Rattle.redodb_replica.proofs.NamesOn.{file_below, file_is, in_order_alike}
use Rattle.redodb_replica.proofs.lists.sources.Goals as goal

pub is_source-is_due-requires-clause-name : goal.is_source-is_due-requires-clause-name
is_source-is_due-requires-clause-name c =
    number_below c.loop-n.n-index 0 c.requires.laid_out.order c.sorted-n-items.ensures
    (omega (arith, c.loop-n-test.true))

pub loop-n-preserved : goal.loop-n-preserved
loop-n-preserved c =
    first_more (length c.args.cells.now) c.loop-n.n-index 0 c.requires.laid_out.order
    c.sorted-n-items.ensures (omega (arith, c.loop-n-test.true)) c.loop-n.invariant
    c.is_source-is_due.ensures c.in_ok-push_if.ensures

pub returns : goal.returns
returns c =
    let g = c.args.graph.now in
    let cells = c.args.cells.now in
    let rows = c.args.rows.now in
    in_order_alike (IsSource (records_in g.tables cells rows)) c.loop-n.names.items
    (λ n.
    let file = file_is g.tables cells rows n in
    (λ p. (p.0, file.0 p.1, p.2), λ p. (p.0, file.1 p.1, p.2)))
    (first_all (length cells) c.requires.laid_out.order c.sorted-n-items.ensures
    (omega (arith, c.loop-n-test.false)) (λ n p. file_below cells n p.1) c.loop-n.invariant)
