use Rattle.std.proofs.Common.{arith}
use Rattle.redodb_merge.proofs.BusyCounts.{busy_in-prefix}
use Rattle.redodb_merge.proofs.merging.counts.add_all.Goals as goal

pub add-requires : goal.add-requires
add-requires c t g =
    let prefix = busy_in-prefix t g c.args.entries.now c.adding.entry-index c.entry-item.result
    c.adding-test.true c.entry-item.is in
    omega (arith, c.adding.invariant t g, c.requires t g)
