use Rattle.std.proofs.Common.{length, arith}
use Rattle.redodb_model.specs.OutOfDate.{HasFile, IsTarget}
use Rattle.redodb_names.proofs.Listed.{number_below, first_more, first_all}
use Rattle.redodb_replica.specs.Replicas.{records_in}
use Rattle.redodb_replica.proofs.NamesOn.{file_below, file_is, in_order_alike}
use Rattle.redodb_replica.proofs.lists.targets.Goals as goal

pub is_listed-is_due-requires : goal.is_listed-is_due-requires
is_listed-is_due-requires c =
    number_below c.loop-n.n-index 0 c.requires.order c.sorted-n-items.ensures
    (omega (arith, c.loop-n-test.true))

pub loop-n-preserved : goal.loop-n-preserved
loop-n-preserved c =
    first_more (length c.args.cells.now) c.loop-n.n-index 0 c.requires.order
    c.sorted-n-items.ensures (omega (arith, c.loop-n-test.true)) c.loop-n.invariant
    c.is_listed-is_due.ensures c.in_ok-push_if.ensures

pub returns : goal.returns
returns c = λ rows.
    let g = c.args.graph.now in
    let cells = c.args.cells.now in
    let r = records_in g.tables cells rows in
    in_order_alike (λ t. HasFile r t × IsTarget r t) c.loop-n.names.items
    (λ n.
    let file = file_is g.tables cells rows n in
    (λ p. (file.0 p.0, p.1), λ p. (file.1 p.0, p.1)))
    (first_all (length cells) c.requires.order c.sorted-n-items.ensures
    (omega (arith, c.loop-n-test.false)) (λ n p. file_below cells n p.0) c.loop-n.invariant)
