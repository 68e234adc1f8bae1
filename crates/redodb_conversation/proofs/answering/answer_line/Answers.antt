use Rattle.std.proofs.Common.{[], ◌++◌, sym, subst, decimal}
use Rattle.redodb_history.specs.Histories.{ended}
use Rattle.redodb_keeping.specs.Rounds.{Round, fault_text_of}
use Rattle.redodb_conversation.specs.Support.KeptLines.{IsReceivedOf}
use Rattle.redodb_keeping.specs.Support.Steps.{known_of}
use Rattle.redodb_conversation.proofs.Outcomes.{ok_then, err_then}
use Rattle.redodb_conversation.proofs.Responding.{goes_on_by, same_waiting, fault_goes_on, fault_breaks_off}
use Rattle.redodb_conversation.proofs.Unanswered.{replied_is_step, refusing_memory}
use Rattle.redodb_conversation.proofs.Following.{follows_itself, fault_follows}
use Rattle.redodb_conversation.proofs.answering.answer_line.Goals as goal

pub returns-in-Ok-clause-talk : goal.returns-in-Ok-clause-talk
returns-in-Ok-clause-talk g c = λ whole more is.
    let replied = c.in-Ok.ensures.answered in
    goes_on_by c.args.sync (known_of c.args.live.now) (known_of c.reply.new.live)
    (g.D.Devices.history c.args.devices.now)
    c.args.unsent.now.logged.items c.args.unsent.now.output.items replied.round whole more
    (subst (IsReceivedOf whole) (sym replied.received_is) is) c.reply.new.logged.items
    c.reply.new.output.items
    (replied_is_step c.in-Ok.field-0 (known_of c.args.live.now) (known_of c.reply.new.live)
    replied.round replied.step) replied.logs replied.writes

pub returns-in-Err-clause-talk : goal.returns-in-Err-clause-talk
returns-in-Err-clause-talk g c =
    let done = g.D.Devices.history c.args.devices.now in
    let refused = refusing_memory c.args.live.now c.reply.new.live c.args.line.now
    c.without_memory.result.number c.without_memory.result.word.now c.in-Err.ensures.known
    c.without_memory.ensures.cause in
    let round : Round = record {
      received = c.args.line.now;
      lines = [];
      output = fault_text_of (decimal c.without_memory.result.number)
          c.without_memory.result.word.now;
    } in
    ok_then c.send_fault.result _ _ c.send_fault.ensures.answered
    (λ sent whole more is start left same talk.
    fault_goes_on c.args.sync (known_of c.args.live.now) (known_of c.reply.new.live) round whole
    more is refused done c.reply.new.logged.items c.reply.new.output.items
    (g.D.Devices.history c.send_fault.new.devices) c.send_fault.new.unsent.logged.items
    c.send_fault.new.unsent.output.items sent start left same
    (same_waiting start left (known_of c.args.live.now) done c.args.unsent.now.logged.items
    c.args.unsent.now.output.items c.reply.new.logged.items c.reply.new.output.items
    (ended whole ++ more) c.in-Err.ensures.unwritten.logs c.in-Err.ensures.unwritten.writes talk))

pub returns-in-Err-clause-broken : goal.returns-in-Err-clause-broken
returns-in-Err-clause-broken g c =
    let done = g.D.Devices.history c.args.devices.now in
    let refused = refusing_memory c.args.live.now c.reply.new.live c.args.line.now
    c.without_memory.result.number c.without_memory.result.word.now c.in-Err.ensures.known
    c.without_memory.ensures.cause in
    let round : Round = record {
      received = c.args.line.now;
      lines = [];
      output = fault_text_of (decimal c.without_memory.result.number)
          c.without_memory.result.word.now;
    } in
    err_then c.send_fault.result _ _ c.send_fault.ensures.part
    (λ part whole more is start left same talk.
    fault_breaks_off c.args.sync (known_of c.args.live.now) (known_of c.reply.new.live) round whole
    more is refused done c.reply.new.logged.items c.reply.new.output.items
    (g.D.Devices.history c.send_fault.new.devices) c.send_fault.new.unsent.logged.items
    c.send_fault.new.unsent.output.items part start left same
    (same_waiting start left (known_of c.args.live.now) done c.args.unsent.now.logged.items
    c.args.unsent.now.output.items c.reply.new.logged.items c.reply.new.output.items
    (ended whole ++ more) c.in-Err.ensures.unwritten.logs c.in-Err.ensures.unwritten.writes talk))

pub returns-in-Ok-clause-more : goal.returns-in-Ok-clause-more
returns-in-Ok-clause-more g c = follows_itself (g.D.Devices.history c.args.devices.now)

pub returns-in-Err-clause-more : goal.returns-in-Err-clause-more
returns-in-Err-clause-more g c =
    fault_follows c.send_fault.result c.args.sync c.reply.new.logged.items
    c.send_fault.new.unsent.logged.items c.reply.new.output.items
    c.send_fault.new.unsent.output.items
    (fault_text_of (decimal c.without_memory.result.number) c.without_memory.result.word.now)
    (g.D.Devices.history c.args.devices.now) (g.D.Devices.history c.send_fault.new.devices)
    c.send_fault.ensures.answered c.send_fault.ensures.part
