use Rattle.std.proofs.Common.{[], ◌∷◌, ap, ◌∙◌}
use Rattle.redodb_log.specs.Operations.{Replace, LogFailed}
use Rattle.redodb_conversation.proofs.Outcomes.{on_err}
use Rattle.redodb_conversation.proofs.Replaced.{replaced_breaks_off, replaced_goes_on, replaced_if}
use Rattle.redodb_conversation.proofs.midst.replace_log.Goals as goal

pub returns-in_err-replace-clause-broken : goal.returns-in_err-replace-clause-broken
returns-in_err-replace-clause-broken g c =
    let done = g.D.Devices.history c.args.devices.now in
    on_err c.from_residual.result _ (replaced_breaks_off c.args.live.now done
    (g.D.Devices.history c.replace.new.self) c.in-Some.log.items c.in-Some.ensures
    (c.in_err-replace.ensures.err
    ∙ ap (λ bytes. LogFailed ∷ Replace bytes ∷ done) c.deref.ensures.value))

pub returns-in_err-replace-clause-more : goal.returns-in_err-replace-clause-more
returns-in_err-replace-clause-more g c =
    (LogFailed ∷ Replace c.deref.result.now ∷ [], c.in_err-replace.ensures.err)

pub returns-then-branch-clause-talk : goal.returns-then-branch-clause-talk
returns-then-branch-clause-talk g c =
    let done = g.D.Devices.history c.args.devices.now in
    replaced_goes_on c.args.live.now done (g.D.Devices.history c.replace.new.self)
    c.in-Some.log.items c.in-Some.ensures
    (replaced_if c.in_ok-replace.field-0 c.deref.result.now done
    (g.D.Devices.history c.replace.new.self) c.if-branch.true c.in_ok-replace.ensures.replaced
    ∙ ap (λ bytes. Replace bytes ∷ done) c.deref.ensures.value)

pub returns-then-branch-clause-more : goal.returns-then-branch-clause-more
returns-then-branch-clause-more g c =
    let done = g.D.Devices.history c.args.devices.now in (
      Replace c.deref.result.now ∷ [],
      replaced_if c.in_ok-replace.field-0 c.deref.result.now done
          (g.D.Devices.history c.replace.new.self) c.if-branch.true
          c.in_ok-replace.ensures.replaced,
    )
