use Rattle.redodb_live.proofs.ordering.order_of.Goals as goal

pub returns : goal.returns
returns c = cc c.cmp.ensures
