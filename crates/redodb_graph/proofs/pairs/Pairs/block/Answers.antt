use Rattle.std.proofs.Common.{◌≡◌, ap, subst}
use Rattle.redodb_graph.specs.Pairs.{AreAscending}
use Rattle.redodb_graph.proofs.Blocks.{block_ascends, block_has}
use Rattle.redodb_graph.proofs.pairs.Pairs.block.Goals as goal

pub returns-clause-ascending : goal.returns-clause-ascending
returns-clause-ascending c =
    let same : c.self.inside.pairs.items ≡ c.args.self.now.items =
    ap (λ of. of.items) c.self.view_is in
    rw (c.deref.ensures.value, same)
    (block_ascends c.args.self.now.items c.start-from.result c.start-to.result
    c.start-to.ensures.start.within
    (subst AreAscending same c.self.invariant.ascending))

pub returns-clause-those : goal.returns-clause-those
returns-clause-those c =
    let same : c.self.inside.pairs.items ≡ c.args.self.now.items =
    ap (λ of. of.items) c.self.view_is in
    rw (c.deref.ensures.value, same)
    (block_has c.args.self.now.items c.start-from.result c.start-to.result c.args.first
    c.start-from.ensures.start c.start-to.ensures.start)
