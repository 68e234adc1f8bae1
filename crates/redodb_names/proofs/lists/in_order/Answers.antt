use Rattle.redodb_names.proofs.Ranked.{rise_once, same_once}
use Rattle.redodb_names.proofs.lists.in_order.Goals as goal

pub returns-clause-rising : goal.returns-clause-rising
returns-clause-rising c =
    let sort = c.sort_unstable in
    rise_once c.args.ranks.items sort.new.self.items c.dedup.new.self.items
    sort.ensures.permutation c.dedup.ensures.filtered sort.ensures.sorted

pub returns-clause-same : goal.returns-clause-same
returns-clause-same c =
    let sort = c.sort_unstable in
    same_once c.args.ranks.items sort.new.self.items c.dedup.new.self.items
    sort.ensures.permutation c.dedup.ensures.filtered
