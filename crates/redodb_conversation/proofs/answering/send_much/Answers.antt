use Rattle.redodb_keeping.specs.Support.Steps.{known_of}
use Rattle.redodb_conversation.proofs.Responding.{sending_goes_on, sending_breaks_off}
use Rattle.redodb_conversation.proofs.Outcomes.{on_err}
use Rattle.redodb_conversation.proofs.Following.{part_follows, sent_follows}
use Rattle.redodb_conversation.proofs.answering.send_much.Goals as goal

pub returns-in_ok-send-clause-talk : goal.returns-in_ok-send-clause-talk
returns-in_ok-send-clause-talk g c = λ more.
    let sent = c.in_ok-send.ensures in
    sending_goes_on c.args.sync (known_of c.args.live.now)
    (g.D.Devices.history c.args.devices.now) (g.D.Devices.history c.send.new.devices)
    c.args.unsent.now.logged.items c.send.new.unsent.logged.items
    c.args.unsent.now.output.items c.send.new.unsent.output.items more
    sent.sent sent.none_logged sent.none_output

pub returns-in_err-send-clause-broken : goal.returns-in_err-send-clause-broken
returns-in_err-send-clause-broken g c =
    on_err c.from_residual.result _ (λ more.
    sending_breaks_off c.args.sync (known_of c.args.live.now)
    (g.D.Devices.history c.args.devices.now) (g.D.Devices.history c.send.new.devices)
    c.args.unsent.now.logged.items c.send.new.unsent.logged.items
    c.args.unsent.now.output.items c.send.new.unsent.output.items more
    c.in_err-send.ensures.part)

pub returns-in_ok-send-clause-more : goal.returns-in_ok-send-clause-more
returns-in_ok-send-clause-more g c =
    sent_follows c.args.sync c.args.unsent.now.logged.items c.args.unsent.now.output.items
    (g.D.Devices.history c.args.devices.now) (g.D.Devices.history c.send.new.devices)
    c.in_ok-send.ensures.sent

pub returns-in_err-send-clause-more : goal.returns-in_err-send-clause-more
returns-in_err-send-clause-more g c =
    part_follows c.args.sync c.args.unsent.now.logged.items c.args.unsent.now.output.items
    (g.D.Devices.history c.args.devices.now) (g.D.Devices.history c.send.new.devices)
    c.in_err-send.ensures.part
