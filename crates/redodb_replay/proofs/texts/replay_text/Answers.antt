use Rattle.std.proofs.Common.{◌∙◌, Err, ap, sym, subst, inl, inr}
use Rattle.std.proofs.lemmas.Result.{err_from_is_err_and}
use Rattle.redodb_model.specs.Names.{Text}
use Rattle.redodb_io.specs.Devices.{known_in}
use Rattle.redodb_io.specs.Watched.{failures_of}
use Rattle.redodb_io.proofs.Counts.{none_failed}
use Rattle.redodb_replay.specs.Replays.{HasVerdict}
use Rattle.redodb_replay.proofs.Inputs.{one_fault}
use Rattle.redodb_replay.proofs.texts.replay_text.Goals as goal

pub returns-in_err-verdict-clause-only : goal.returns-in_err-verdict-clause-only
returns-in_err-verdict-clause-only g c lines known =
    let p = err_from_is_err_and c.from_residual.result c.from_residual.ensures.1 in
    rw (p.1, p.2) (c.in_err-verdict.ensures.only lines known)

pub returns-in-Err-Write-clause-part_written : goal.returns-in-Err-Write-clause-part_written
returns-in-Err-Write-clause-part_written g c failed =
    let (sent, rest, parts, sends) = c.in-Err-Write.ensures.prefix in
    let known = known_in g.R.Read.remaining c.args.input.now in
    let verdict = c.in_ok-verdict.verdict in
    let whole = sym c.deref.ensures.value ∙ parts in
    let has =
    subst (λ (text : Text). HasVerdict known verdict text) whole c.in_ok-verdict.ensures.verdict
    in (verdict, sent, rest, has, sends)

pub returns-in-Ok-clause-device : goal.returns-in-Ok-clause-device
returns-in-Ok-clause-device g c = (
  λ no. absurd no,
  λ any. elim any [
    | inl failed ↦ none_failed (failures_of c.args.input.now)
        (failures_of c.verdict_on_input.new.input)
        (c.in_ok-verdict.ensures.others (λ no. no)) failed
    | inr failed ↦ absurd (let wrong = c.in-Ok.ensures.write.1 failed in cc)
  ],
)

pub returns-in-Err-Write-clause-cause : goal.returns-in-Err-Write-clause-cause
returns-in-Err-Write-clause-cause g c =
    c.in-Err-Write.ensures.write.0 (ap Err (one_fault c.in-Err-Write.field-0))

pub returns-in-Err-Write-clause-device : goal.returns-in-Err-Write-clause-device
returns-in-Err-Write-clause-device g c =
    let failed = c.in-Err-Write.ensures.write.0 (ap Err (one_fault c.in-Err-Write.field-0)) in
    (λ yes. inr failed, λ any. tt)
