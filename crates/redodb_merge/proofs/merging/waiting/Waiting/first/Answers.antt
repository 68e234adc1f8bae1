use Rattle.std.proofs.Common.{◌<◌, ◌^◌, arith, rules}
use Rattle.redodb_merge.proofs.WaitingBits.{first_ready, none_ready}
use Rattle.redodb_merge.proofs.merging.waiting.Waiting.first.Goals as goal

pub returns-then-s-count : goal.returns-then-s-count
returns-then-s-count c =
    let fits : c.args.self.now.ready < 2 ^ 64 = search rules in
    first_ready c.args.self.now.ready c.args.count fits c.requires c.if-s-count.true

pub returns-else-s-count : goal.returns-else-s-count
returns-else-s-count c =
    let fits : c.args.self.now.ready < 2 ^ 64 = search rules in
    none_ready c.args.self.now.ready c.args.count fits c.requires
    (omega (arith, c.if-s-count.false))
