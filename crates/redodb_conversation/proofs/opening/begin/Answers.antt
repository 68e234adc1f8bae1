use Rattle.std.proofs.Common.{◌≡◌, List, [], ◌∷◌, ap, ◌∙◌, subst, inl, inr, cond}
use Rattle.redodb_log.specs.Operations.{Operation, Read, Sync, Write, OutputFailed, IsPrefix}
use Rattle.redodb_keeping.specs.Support.Opening.{after_cut}
use Rattle.redodb_conversation.specs.Support.Opening.{HasGoneOn, HasGoneOnInPart}
use Rattle.redodb_conversation.proofs.Outcomes.{on_err}
use Rattle.redodb_conversation.proofs.OpeningDone.{has_gone_on, has_gone_in_part, synced_then, begins_at, begins_to_cut, begins_to_go_on, begins_to_sync, begins_to_write}
use Rattle.redodb_conversation.proofs.opening.begin.Goals as goal
use Rattle.redodb_conversation.proofs.opening.begin.Goals.{then-sync+in_ok-settle, else-sync}

pub returns-in_err-cut_rest-clause-part : goal.returns-in_err-cut_rest-clause-part
returns-in_err-cut_rest-clause-part g c =
    on_err c.from_residual.result _ (λ salvage version bytes e.
    begins_to_cut c.args.sync salvage version bytes c.args.opened.now
    (g.D.Devices.history c.cut_rest.new.devices) (g.D.Devices.history c.args.devices.now) e
    c.in_err-cut_rest.ensures.part)

pub returns-in_err-replaced-clause-part : goal.returns-in_err-replaced-clause-part
returns-in_err-replaced-clause-part g c =
    on_err c.from_residual-in_err-replaced.result _ (λ salvage version bytes e.
    let opened = c.args.opened.now in
    let done = g.D.Devices.history c.go_on.new.devices in
    let cut = after_cut opened.rest opened.bytes (Read bytes ∷ []) in
    let was : g.D.Devices.history c.cut_rest.new.devices ≡ cut =
    c.in_ok-cut_rest.ensures.cut ∙ ap (after_cut opened.rest opened.bytes) e in
    begins_to_go_on c.args.sync salvage version bytes opened done
    (subst (λ (d : List Operation). HasGoneOnInPart opened d done) was
    (has_gone_in_part opened c.deref.result.now c.deref.ensures.value
    (g.D.Devices.history c.cut_rest.new.devices) done c.in_err-replaced.ensures.part)))

pub returns-in_err-settle-clause-part : goal.returns-in_err-settle-clause-part
returns-in_err-settle-clause-part g c =
    on_err c.from_residual-in_err-settle.result _ (λ salvage version bytes e.
    let opened = c.args.opened.now in
    let gone = g.D.Devices.history c.go_on.new.devices in
    let cut = after_cut opened.rest opened.bytes (Read bytes ∷ []) in
    let was : g.D.Devices.history c.cut_rest.new.devices ≡ cut =
    c.in_ok-cut_rest.ensures.cut ∙ ap (after_cut opened.rest opened.bytes) e in
    begins_to_sync c.args.sync salvage version bytes opened
    (g.D.Devices.history c.settle.new.self) gone
    (subst (λ (d : List Operation). HasGoneOn opened d gone) was (has_gone_on opened c.deref.result.now c.deref.ensures.value
    (g.D.Devices.history c.cut_rest.new.devices) gone c.in_ok-replaced.replaced
    c.in_ok-replaced.ensures.replaced c.in_ok-replaced.ensures.appended))
    c.in_err-settle.ensures.err)

pub returns-in_err-write-clause-part : goal.returns-in_err-write-clause-part
returns-in_err-write-clause-part g c =
    on_err c.from_residual-in_err-write.result _ (λ salvage version bytes e.
    let opened = c.args.opened.now in
    let gone = g.D.Devices.history c.go_on.new.devices in
    let cut = after_cut opened.rest opened.bytes (Read bytes ∷ []) in
    let was : g.D.Devices.history c.cut_rest.new.devices ≡ cut =
    c.in_ok-cut_rest.ensures.cut ∙ ap (after_cut opened.rest opened.bytes) e in
    let ready : g.D.Devices.history c.if-sync.devices ≡ cond c.args.sync (Sync ∷ gone) gone =
    synced_then c.args.sync gone (g.D.Devices.history c.if-sync.devices)
    (elim c.if-sync.branch [
      | then-sync+in_ok-settle w ↦ inl (
        w.if-sync.true,
        ap g.D.Devices.history w.devices-is ∙ w.in_ok-settle.ensures.synced,
      )
      | else-sync w ↦ inr (w.if-sync.false, ap g.D.Devices.history w.devices-is)
    ]) in
    let (part, is_part, h) = c.in_err-write.ensures.part in
    begins_to_write c.args.sync salvage version bytes opened
    (g.D.Devices.history c.write.new.self) gone
    (subst (λ (d : List Operation). HasGoneOn opened d gone) was (has_gone_on opened c.deref.result.now c.deref.ensures.value
    (g.D.Devices.history c.cut_rest.new.devices) gone c.in_ok-replaced.replaced
    c.in_ok-replaced.ensures.replaced c.in_ok-replaced.ensures.appended)) part
    (subst (IsPrefix part) c.deref-2.ensures.value is_part)
    (h ∙ ap (λ (d : List Operation). OutputFailed ∷ Write part ∷ d) ready))

pub returns-clause-begun : goal.returns-clause-begun
returns-clause-begun g c = λ salvage version bytes e.
    let opened = c.args.opened.now in
    let gone = g.D.Devices.history c.go_on.new.devices in
    let cut = after_cut opened.rest opened.bytes (Read bytes ∷ []) in
    let was : g.D.Devices.history c.cut_rest.new.devices ≡ cut =
    c.in_ok-cut_rest.ensures.cut ∙ ap (after_cut opened.rest opened.bytes) e in
    let ready : g.D.Devices.history c.if-sync.devices ≡ cond c.args.sync (Sync ∷ gone) gone =
    synced_then c.args.sync gone (g.D.Devices.history c.if-sync.devices)
    (elim c.if-sync.branch [
      | then-sync+in_ok-settle w ↦ inl (
        w.if-sync.true,
        ap g.D.Devices.history w.devices-is ∙ w.in_ok-settle.ensures.synced,
      )
      | else-sync w ↦ inr (w.if-sync.false, ap g.D.Devices.history w.devices-is)
    ]) in
    begins_at c.args.sync salvage version bytes opened (g.D.Devices.history c.write.new.self) gone
    (subst (λ (d : List Operation). HasGoneOn opened d gone) was (has_gone_on opened c.deref.result.now c.deref.ensures.value
    (g.D.Devices.history c.cut_rest.new.devices) gone c.in_ok-replaced.replaced
    c.in_ok-replaced.ensures.replaced c.in_ok-replaced.ensures.appended))
    (c.in_ok-write.ensures.whole ∙ (λ i. Write (c.deref-2.ensures.value i) ∷ ready i))
