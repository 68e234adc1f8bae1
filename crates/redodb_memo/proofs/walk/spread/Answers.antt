use Rattle.std.proofs.Common.{◌≤◌, ◌<◌, length, arith}
use Rattle.redodb_memo.specs.Support.Regions.{Spreads}
use Rattle.redodb_memo.proofs.Marking.{grows_longer}
use Rattle.redodb_model.proofs.Listing.{at_take_all}
use Rattle.redodb_memo.proofs.Spreading.{spreads_more}
use Rattle.redodb_memo.proofs.walk.spread.Goals as goal

pub names-preserved : goal.names-preserved
names-preserved g c =
    let r = g.D.Dependencies.records c.args.database.now in
    let in' : c.names.next < length c.names.marks.queue = omega (arith, c.queue_len.ensures.len) in
    let longer = grows_longer c.enter_dependents.ensures.grown in
    record {
      spreads = spreads_more r c.names.next c.queued-n.result in' c.queued-n.ensures.name
          c.names.invariant.spreads c.enter_dependents.ensures;
      done = omega (arith, in', longer);
    }

pub returns : goal.returns
returns g c =
    let r = g.D.Dependencies.records c.args.database.now in
    let queue = c.names.marks.queue in
    let end : length queue ≤ c.names.next = omega (arith, c.queue_len.ensures.len) in
    at_take_all (λ ns. Spreads r ns c.args.marks.now c.names.marks)
    queue c.names.next end c.names.invariant.spreads
