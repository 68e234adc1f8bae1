use Rattle.std.proofs.Common.{◌≤◌, length, take, refl, inl, inr, arith}
use Rattle.std.proofs.lemmas.List.{length-take}
use Rattle.std.proofs.lemmas.Result.{err_from_is_err_and}
use Rattle.redodb_keeping.proofs.OpeningKept.{all_kept, first_kept, first_refused}
use Rattle.redodb_keeping.proofs.restoring.restore_or_salvage.Goals as goal
use Rattle.redodb_keeping.proofs.restoring.restore_or_salvage.Goals.{then-restored-log, else-restored-log}

pub returns-after-restored-log-clause-kept : goal.returns-after-restored-log-clause-kept
returns-after-restored-log-clause-kept c = λ past has.
    all_kept c.args.salvage past c.args.log.now c.in-Ok.restored c.if-restored-log.rest
    (c.in-Ok.ensures.restored past has)
    (elim c.if-restored-log.branch [
      | then-restored-log w ↦ inl w.rest-is
      | else-restored-log w ↦ inr (w.rest-is, w.if-restored-log.false)
    ])

pub slice_bounds-restore-end : goal.slice_bounds-restore-end
slice_bounds-restore-end c =
    let cut : c.in-Err-Differs.bytes ≤ length c.args.log.now =
    rw c.in-Err-Differs.field-0-is at c.in-Err-Differs.ensures.cut in
    omega (arith, cut, length-take c.in-Err-Differs.bytes c.args.log.now)

pub returns-after-restored-log-clause-within : goal.returns-after-restored-log-clause-within
returns-after-restored-log-clause-within c = c.in-Ok.ensures.within

pub returns-in_ok-restore-in-Err-Differs-clause-within :
    goal.returns-in_ok-restore-in-Err-Differs-clause-within
returns-in_ok-restore-in-Err-Differs-clause-within c =
    let within : c.in_ok-restore-in-Err-Differs.field-0.bytes
    ≤ length (take c.in-Err-Differs.bytes c.args.log.now) =
    c.in_ok-restore-in-Err-Differs.ensures.within in
    omega (arith, within, length-take c.in-Err-Differs.bytes c.args.log.now)

pub returns-in_ok-restore-in-Err-Differs-clause-kept :
    goal.returns-in_ok-restore-in-Err-Differs-clause-kept
returns-in_ok-restore-in-Err-Differs-clause-kept c = λ past has.
    let log = c.args.log.now in
    let size = c.in-Err-Differs.bytes in
    let differs = (rw c.in-Err-Differs.field-0-is at c.in-Err-Differs.ensures.cause) past has in
    first_kept c.args.salvage past log (take size log) size refl c.in-Err-Differs.field-0-0
    c.in-Err-Differs.field-0-1 c.in_ok-restore-in-Err-Differs.field-0 c.if-salvage.true differs
    c.in_ok-restore-in-Err-Differs.ensures.restored c.in_ok-restore-in-Err-Differs.ensures.same

pub returns-in_err-restore-in-Err-Differs-clause-cause :
    goal.returns-in_err-restore-in-Err-Differs-clause-cause
returns-in_err-restore-in-Err-Differs-clause-cause c =
    let log = c.args.log.now in
    let size = c.in-Err-Differs.bytes in
    let differs = rw c.in-Err-Differs.field-0-is at c.in-Err-Differs.ensures.cause in
    let p = err_from_is_err_and c.from_residual.result c.from_residual.ensures.1 in
    let refused = c.in_err-restore-in-Err-Differs in
    rw (p.1, p.2) (first_refused c.args.salvage log (take size log) c.in-Err-Differs.field-0-0
    c.in-Err-Differs.field-0-1 size refused.field-0.0 refl differs refused.ensures.only
    refused.ensures.begun refused.ensures.cause)
