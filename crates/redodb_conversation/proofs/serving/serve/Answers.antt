use Rattle.std.proofs.Common.{◌≤◌, List, [], ◌∷◌, length, refl, sym, ap, ◌∙◌, subst}
use Rattle.std.proofs.lemmas.Result.{err_from_is_err_and}
use Rattle.redodb_io.specs.Watched.{inner_of, failures_of}
use Rattle.redodb_log.specs.Operations.{Operation, Read, held_after}
use Rattle.redodb_keeping.specs.Support.Steps.{known_of}
use Rattle.redodb_keeping.specs.Support.Sending.{IsSendCause}
use Rattle.redodb_keeping.specs.declared.fault.ServeFault.TheVariants.{Memory}
use Rattle.redodb_conversation.proofs.Following.{follows_all}
use Rattle.redodb_conversation.proofs.Outcomes.{ok_then, both_err}
use Rattle.redodb_conversation.proofs.Served.{answers_all, talk_cause_serves, begin_cause_serves, open_cause_serves, memory_is_no_read, no_read_failed, unchanged_by_read}
use Rattle.redodb_conversation.proofs.serving.serve.Goals as goal

pub begin-requires : goal.begin-requires
begin-requires g c =
    let bytes = c.in_ok-log.log.items in
    subst (λ (ops : List Operation). c.in_ok-opened.opened.bytes ≤ length (held_after ops).all)
    (sym (c.in_ok-log.ensures.read ∙ ap (λ ops. Read bytes ∷ ops) c.requires))
    c.in_ok-opened.ensures.within

pub returns-in_err-opened-clause-cause : goal.returns-in_err-opened-clause-cause
returns-in_err-opened-clause-cause g c =
    let p = err_from_is_err_and c.from_residual-in_err-opened.result
    c.from_residual-in_err-opened.ensures.1 in
    let bytes = c.in_ok-log.log.items in
    rw (p.1, p.2) (open_cause_serves c.args.keeping c.args.version.now bytes
    (g.R.Read.remaining (inner_of c.args.input.now)) (g.D.Devices.history c.read.new.self)
    (c.in_ok-log.ensures.read ∙ ap (λ ops. Read bytes ∷ ops) c.requires)
    c.in_err-opened.field-0.0 c.in_err-opened.ensures.cause)

pub returns-in_err-buffers-clause-cause : goal.returns-in_err-buffers-clause-cause
returns-in_err-buffers-clause-cause g c =
    let p = err_from_is_err_and c.from_residual-in_err-buffers.result
    c.from_residual-in_err-buffers.ensures.1 in
    let (same, stops) = unchanged_by_read (g.D.Devices.history c.read.new.self)
    (g.D.Devices.history c.args.devices.now) c.in_ok-log.log.items c.in_ok-log.ensures.read
    c.requires in
    rw (p.1, p.2) (refl, same, stops)

pub returns-in_err-buffers-clause-read : goal.returns-in_err-buffers-clause-read
returns-in_err-buffers-clause-read g c =
    let p = err_from_is_err_and c.from_residual-in_err-buffers.result
    c.from_residual-in_err-buffers.ensures.1 in
    rw (p.1, p.2) (no_read_failed Memory (failures_of c.args.input.now) memory_is_no_read)

pub returns-in_err-growth-clause-cause : goal.returns-in_err-growth-clause-cause
returns-in_err-growth-clause-cause g c =
    let p = err_from_is_err_and c.from_residual-in_err-growth.result
    c.from_residual-in_err-growth.ensures.1 in
    let bytes = c.in_ok-log.log.items in
    let version = c.args.version.now in
    rw (p.1, p.2) (begin_cause_serves c.args.keeping version bytes c.in_ok-opened.opened
    (g.R.Read.remaining (inner_of c.args.input.now)) c.in_ok-opened.ensures.opened
    (g.D.Devices.history c.begin.new.devices) c.in_err-growth.field-0.0 c.in_err-growth.ensures.cause
    (c.in_err-growth.ensures.part c.args.keeping.salvage version bytes
    (c.in_ok-log.ensures.read ∙ ap (λ ops. Read bytes ∷ ops) c.requires)))

pub returns-in_err-growth-clause-read : goal.returns-in_err-growth-clause-read
returns-in_err-growth-clause-read g c =
    let p = err_from_is_err_and c.from_residual-in_err-growth.result
    c.from_residual-in_err-growth.ensures.1 in
    rw (p.1, p.2) (no_read_failed c.in_err-growth.field-0.0 (failures_of c.args.input.now)
    (λ same. subst (IsSendCause (g.D.Devices.history c.begin.new.devices)) same
    c.in_err-growth.ensures.cause))

pub returns-clause-talk : goal.returns-clause-talk
returns-clause-talk g c =
    let bytes = c.in_ok-log.log.items in
    let version = c.args.version.now in
    let input = g.R.Read.remaining (inner_of c.args.input.now) in
    let begun = g.D.Devices.history c.begin.new.devices in
    let done = g.D.Devices.history c.talk-talked.new.devices in
    let begins = c.in_ok-growth.ensures.begun c.args.keeping.salvage version bytes
    (c.in_ok-log.ensures.read ∙ ap (λ ops. Read bytes ∷ ops) c.requires) in
    let (later, after) =
    follows_all (Read bytes ∷ []) begun done begins.0 c.talk-talked.ensures.more in
    ok_then c.talk-talked.result _ _ c.talk-talked.ensures.talk (λ talks.
    answers_all c.args.keeping version bytes c.in_ok-opened.opened input
    c.in_ok-opened.ensures.opened begun begins (known_of c.talk-talked.new.live)
    (g.R.Read.remaining (inner_of c.talk-talked.new.input)) done later after talks)

pub returns-clause-cause : goal.returns-clause-cause
returns-clause-cause g c =
    let bytes = c.in_ok-log.log.items in
    let version = c.args.version.now in
    let input = g.R.Read.remaining (inner_of c.args.input.now) in
    let begun = g.D.Devices.history c.begin.new.devices in
    let done = g.D.Devices.history c.talk-talked.new.devices in
    let begins = c.in_ok-growth.ensures.begun c.args.keeping.salvage version bytes
    (c.in_ok-log.ensures.read ∙ ap (λ ops. Read bytes ∷ ops) c.requires) in
    let (later, after) =
    follows_all (Read bytes ∷ []) begun done begins.0 c.talk-talked.ensures.more in
    both_err c.talk-talked.result _ _ _ c.talk-talked.ensures.device c.talk-talked.ensures.cause (λ fault device talks.
    talk_cause_serves c.args.keeping version bytes c.in_ok-opened.opened input
    c.in_ok-opened.ensures.opened begun begins (known_of c.talk-talked.new.live)
    (g.R.Read.remaining (inner_of c.talk-talked.new.input)) done later after fault device talks)
