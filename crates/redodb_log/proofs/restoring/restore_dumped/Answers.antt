use Rattle.std.proofs.Common.{◌-◌, length, inl, subst}
use Rattle.std.specs.Prelude.{drop, take}
use Rattle.redodb_dump.specs.Dumps.{IsLoadFault}
use Rattle.redodb_log.specs.Logs.{Past, HasPast}
use Rattle.redodb_log.specs.Support.Steps.{BeginsAfter}
use Rattle.redodb_log.proofs.Dumped.{begins_after, err_later, has_past, no_line, ok_later, too_many}
use Rattle.redodb_log.proofs.restoring.restore_dumped.Goals as goal

begins : (c : goal.After-restore_lines) (past : Past) → HasPast past c.args.log.now
    → BeginsAfter past c.args.log.now (take (length c.args.text.now - c.in-Ok.field-0.bytes)
    (drop c.in-Ok.field-0.bytes c.args.text.now)) c.in-Ok.field-0.live
begins c = begins_after c.args.log.now c.args.text.now c.in-Ok.field-0.live
    c.in-Ok.field-0.bytes c.requires c.in-Ok.ensures.dump c.in-Ok.ensures.over
    c.in-Ok.ensures.calls

pub returns-in-Ok-clause-restored : goal.returns-in-Ok-clause-restored
returns-in-Ok-clause-restored c =
    ok_later c.restore_lines.result _ _
    (λ restored h past has. inl (h past (begins c past has))) c.restore_lines.ensures.restored

pub returns-in-Ok-clause-only : goal.returns-in-Ok-clause-only
returns-in-Ok-clause-only c past lines torn is =
    c.restore_lines.ensures.only past lines torn
    (begins c past (has_past past c.args.log.now torn lines is)) is

pub returns-in-Ok-clause-same : goal.returns-in-Ok-clause-same
returns-in-Ok-clause-same c past lines torn is =
    c.restore_lines.ensures.same past lines torn
    (begins c past (has_past past c.args.log.now torn lines is)) is

pub returns-in-Ok-clause-cause : goal.returns-in-Ok-clause-cause
returns-in-Ok-clause-cause c =
    err_later c.restore_lines.result _ _
    (λ fault h past has. h past (begins c past has)) c.restore_lines.ensures.cause

pub returns-in-Err-Worn-clause-cause : goal.returns-in-Err-Worn-clause-cause
returns-in-Err-Worn-clause-cause c past has =
    too_many c.args.log.now c.args.text.now c.requires
    (subst (IsLoadFault c.args.text.now) c.in-Err-Worn.field-0-is c.in-Err-Worn.ensures.fault)
    past has

pub returns-in-Err-Line-clause-only : goal.returns-in-Err-Line-clause-only
returns-in-Err-Line-clause-only c past lines torn is =
    no_line c.args.log.now c.args.text.now c.requires
    (subst (IsLoadFault c.args.text.now) c.in-Err-Line.field-0-is c.in-Err-Line.ensures.fault) past
    (has_past past c.args.log.now torn lines is)

pub returns-in-Err-Line-clause-cause : goal.returns-in-Err-Line-clause-cause
returns-in-Err-Line-clause-cause c past has =
    no_line c.args.log.now c.args.text.now c.requires
    (subst (IsLoadFault c.args.text.now) c.in-Err-Line.field-0-is c.in-Err-Line.ensures.fault)
    past has
