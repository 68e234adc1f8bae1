use Rattle.std.proofs.Common.{sym, subst, arith}
use Rattle.redodb_model.specs.OutOfDate.{HasReason}
use Rattle.redodb_records.specs.Rows.{with_rows}
use Rattle.redodb_database.proofs.Searching.{none_here}
use Rattle.redodb_database.proofs.why.first_reason.Goals as goal

pub loop-place-preserved : goal.loop-place-preserved
loop-place-preserved c =
    let r = with_rows c.args.records.now c.args.rows.now in
    let inv = c.loop-place.invariant in
    record {
      past = omega (arith, inv.past);
      none = none_here r c.args.seen.now.queue c.args.from c.loop-place.place inv.none
          (λ reason. c.in_default.ensures.reason
          (subst (HasReason r) (sym c.queued.ensures.name) reason));
    }
