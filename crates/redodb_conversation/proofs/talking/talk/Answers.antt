use Rattle.std.proofs.Common.{◌≡◌, ◌≤◌, ◌==◌, not, [], ◌++◌, refl, sym, ap, ◌∙◌, subst, length, take, append-nil, arith}
use Rattle.std.specs.Io.KnownBytes.{Consumes}
use Rattle.std.proofs.lemmas.Grind.{common_steps}
use Rattle.std.proofs.lemmas.Result.{err_from_is_err_and}
use Rattle.redodb_io.specs.Watched.{inner_of, failures_of}
use Rattle.redodb_keeping.specs.Support.Steps.{known_of}
use Rattle.redodb_conversation.specs.Support.Places.{TalksAt, as_place}
use Rattle.redodb_conversation.proofs.Talked.{kept_left, none_waiting, read_more, read_none, answered_all, send_cause_talks, waiting_again}
use Rattle.redodb_conversation.proofs.Prefixes.{prefix_of_none}
use Rattle.redodb_conversation.proofs.Responding.{same_waiting}
use Rattle.redodb_conversation.proofs.Following.{follows_all, follows_itself, send_fault_talks}
use Rattle.redodb_conversation.proofs.talking.talk.Goals as goal

pub reads-init : goal.reads-init
reads-init g c =
    let left = g.R.Read.remaining (inner_of c.args.input.now) in
    let done = g.D.Devices.history c.args.devices.now in
    record {
      room = c.requires.room;
      few = subst (λ t. length t ≤ 8199) (sym c.requires.none) (omega arith);
      chunk = c.requires.chunk;
      none_output = c.new-unsent.ensures.output;
      none_logged = c.new-unsent.ensures.logged;
      failures = refl;
      talk = λ start same way. (
        [],
        prefix_of_none c.args.buffers.prefix.items c.requires.none,
        same_waiting start left (known_of c.args.live.now) done [] []
            c.new-unsent.result.logged.items c.new-unsent.result.output.items []
            c.new-unsent.ensures.logged c.new-unsent.ensures.output way,
      );
      more = follows_itself done;
    }

pub returns-in_default-clause-cause : goal.returns-in_default-clause-cause
returns-in_default-clause-cause g c = λ start same way.
    let (begun, prefix, at) = c.reads.invariant.talk start same way in
    let known = known_of c.reads.live in
    let left = g.R.Read.remaining (inner_of c.reads.input) in
    let left' = g.R.Read.remaining (inner_of c.read.new.self) in
    let done = g.D.Devices.history c.reads.devices in
    let logged = c.reads.unsent.logged.items in
    let output = c.reads.unsent.output.items in
    answered_all start known left' done logged output begun c.reads.invariant.none_logged
    c.reads.invariant.none_output prefix.unended
    (kept_left start known left left' done logged output begun at c.in_default.ensures.failed)

-- whether a read failed in this call
pub returns-in_default-clause-read : goal.returns-in_default-clause-read
returns-in_default-clause-read g c = (
  λ same. ap (λ n. not (failures_of c.read.new.self == n)) (sym c.reads.invariant.failures)
      ∙ c.in_default.ensures.noted,
  λ failed. refl,
)

pub returns-then-count-eq0-clause-talk : goal.returns-then-count-eq0-clause-talk
returns-then-count-eq0-clause-talk g c = λ start same way.
    let (begun, prefix, at) = c.reads.invariant.talk start same way in
    let known = known_of c.reads.live in
    let left = g.R.Read.remaining (inner_of c.reads.input) in
    let left' = g.R.Read.remaining (inner_of c.read.new.self) in
    let done = g.D.Devices.history c.reads.devices in
    let logged = c.reads.unsent.logged.items in
    let output = c.reads.unsent.output.items in
    let zero : c.in-Some.count ≡ 0 = c.if-count-eq0.true in
    let taken : Consumes left left' [] =
    subst (λ n. Consumes left left' (take n c.read.new.buf)) zero c.in-Some.ensures.given in
    answered_all start known left' done logged output begun c.reads.invariant.none_logged
    c.reads.invariant.none_output prefix.unended
    (read_none start known left left' done logged output begun at taken)

pub returns-then-count-eq0-clause-end : goal.returns-then-count-eq0-clause-end
returns-then-count-eq0-clause-end g c =
    let zero : c.in-Some.count ≡ 0 = c.if-count-eq0.true in
    c.in-Some.ensures.end zero (grind (arith, common_steps))

pub returns-in_err-answer_lines-clause-cause : goal.returns-in_err-answer_lines-clause-cause
returns-in_err-answer_lines-clause-cause g c =
    let p = err_from_is_err_and c.from_residual.result c.from_residual.ensures.1 in
    rw (p.1, p.2) (λ start same way.
    let (begun, prefix, at) = c.reads.invariant.talk start same way in
    let left = g.R.Read.remaining (inner_of c.reads.input) in
    let left' = g.R.Read.remaining (inner_of c.read.new.self) in
    let place = as_place c.reads.live (g.D.Devices.history c.reads.devices) c.reads.unsent in
    let again : c.deref.result.now ≡ c.read.new.buf = grind (arith, common_steps) in
    let bytes = take c.in-Some.count c.read.new.buf in
    send_cause_talks start (known_of c.answer_lines.new.live) left'
    (g.D.Devices.history c.answer_lines.new.devices)
    c.in_err-answer_lines.field-0.0
    c.in_err-answer_lines.ensures.cause
    (c.in_err-answer_lines.ensures.broken begun prefix start left' same
    (subst (λ t. TalksAt start left' place (begun ++ take c.in-Some.count t)) (sym again)
    (read_more start (known_of c.reads.live) left left' (g.D.Devices.history c.reads.devices)
    c.reads.unsent.logged.items c.reads.unsent.output.items begun at bytes
    c.in-Some.ensures.given))))

pub reads-preserved : goal.reads-preserved
reads-preserved g c = record {
  room = c.answer_lines.ensures.room;
  few = c.in_ok-answer_lines.ensures.few;
  chunk = grind (arith, common_steps);
  none_output = c.in_ok-answer_lines.ensures.none_output;
  none_logged = c.in_ok-answer_lines.ensures.none_logged;
  failures = c.in-Some.ensures.count ∙ c.reads.invariant.failures;
  talk = λ start same way.
      let (begun, prefix, at) = c.reads.invariant.talk start same way in
      let left = g.R.Read.remaining (inner_of c.reads.input) in
      let left' = g.R.Read.remaining (inner_of c.read.new.self) in
      let place = as_place c.reads.live (g.D.Devices.history c.reads.devices) c.reads.unsent in
      let again : c.deref.result.now ≡ c.read.new.buf = grind (arith, common_steps) in
      let bytes = take c.in-Some.count c.read.new.buf in
      let live = c.answer_lines.new.live in
      let unsent = c.answer_lines.new.unsent in
      let done = g.D.Devices.history c.answer_lines.new.devices in
      let (later, new_prefix, new_at) = c.in_ok-answer_lines.ensures.talk begun prefix start left'
      same
      (subst (λ t. TalksAt start left' place (begun ++ take c.in-Some.count t)) (sym again)
      (read_more start (known_of c.reads.live) left left' (g.D.Devices.history c.reads.devices)
      c.reads.unsent.logged.items c.reads.unsent.output.items begun at bytes
      c.in-Some.ensures.given)) in (
        later,
        new_prefix,
        waiting_again start left' live (g.D.Devices.history c.compact.new.devices) unsent later
            c.in_ok-answer_lines.ensures.none_logged c.in_ok-answer_lines.ensures.none_output
            (c.in_ok-compact.ensures.talk c.args.sync later start left' same
            (none_waiting start left' live done unsent later
            c.in_ok-answer_lines.ensures.none_logged c.in_ok-answer_lines.ensures.none_output
            (subst (TalksAt start left' (as_place live done unsent)) (append-nil later) new_at))),
      );
  more = follows_all (g.D.Devices.history c.args.devices.now)
      (g.D.Devices.history c.answer_lines.new.devices) (g.D.Devices.history c.compact.new.devices)
      (follows_all (g.D.Devices.history c.args.devices.now) (g.D.Devices.history c.reads.devices)
      (g.D.Devices.history c.answer_lines.new.devices) c.reads.invariant.more
      c.answer_lines.ensures.more) c.compact.ensures.more;
}

pub returns-clause-cause : goal.returns-clause-cause
returns-clause-cause g c = λ start same way.
    let (begun, prefix, at) = c.reads.invariant.talk start same way in
    answered_all start (known_of c.reads.live) (g.R.Read.remaining (inner_of c.reads.input))
    (g.D.Devices.history c.reads.devices) c.reads.unsent.logged.items c.reads.unsent.output.items
    begun c.reads.invariant.none_logged c.reads.invariant.none_output prefix.unended at

pub returns-in_err-answer_lines-clause-device : goal.returns-in_err-answer_lines-clause-device
returns-in_err-answer_lines-clause-device g c =
    let p = err_from_is_err_and c.from_residual.result c.from_residual.ensures.1 in
    rw (p.1, p.2) (send_fault_talks (g.D.Devices.history c.answer_lines.new.devices)
    c.in_err-answer_lines.field-0.0 c.in_err-answer_lines.ensures.cause)

pub returns-in_err-answer_lines-clause-more : goal.returns-in_err-answer_lines-clause-more
returns-in_err-answer_lines-clause-more g c =
    follows_all (g.D.Devices.history c.args.devices.now) (g.D.Devices.history c.reads.devices)
    (g.D.Devices.history c.answer_lines.new.devices) c.reads.invariant.more
    c.answer_lines.ensures.more

pub returns-in_err-compact-clause-cause : goal.returns-in_err-compact-clause-cause
returns-in_err-compact-clause-cause g c =
    let p = err_from_is_err_and c.from_residual-in_err-compact.result
    c.from_residual-in_err-compact.ensures.1 in
    rw (p.1, p.2) (λ start same way.
    let (begun, prefix, at) = c.reads.invariant.talk start same way in
    let left = g.R.Read.remaining (inner_of c.reads.input) in
    let left' = g.R.Read.remaining (inner_of c.read.new.self) in
    let place = as_place c.reads.live (g.D.Devices.history c.reads.devices) c.reads.unsent in
    let again : c.deref.result.now ≡ c.read.new.buf = grind (arith, common_steps) in
    let bytes = take c.in-Some.count c.read.new.buf in
    let live = c.answer_lines.new.live in
    let unsent = c.answer_lines.new.unsent in
    let done = g.D.Devices.history c.answer_lines.new.devices in
    let (later, new_prefix, new_at) = c.in_ok-answer_lines.ensures.talk begun prefix start left'
    same
    (subst (λ t. TalksAt start left' place (begun ++ take c.in-Some.count t)) (sym again)
    (read_more start (known_of c.reads.live) left left' (g.D.Devices.history c.reads.devices)
    c.reads.unsent.logged.items c.reads.unsent.output.items begun at bytes
    c.in-Some.ensures.given)) in
    send_cause_talks start (known_of live) left' (g.D.Devices.history c.compact.new.devices)
    c.in_err-compact.field-0.0 c.in_err-compact.ensures.cause
    (c.in_err-compact.ensures.broken c.args.sync later start left' same
    (none_waiting start left' live done unsent later
    c.in_ok-answer_lines.ensures.none_logged c.in_ok-answer_lines.ensures.none_output
    (subst (TalksAt start left' (as_place live done unsent)) (append-nil later) new_at))))

pub returns-in_err-compact-clause-device : goal.returns-in_err-compact-clause-device
returns-in_err-compact-clause-device g c =
    let p = err_from_is_err_and c.from_residual-in_err-compact.result
    c.from_residual-in_err-compact.ensures.1 in
    rw (p.1, p.2) (send_fault_talks (g.D.Devices.history c.compact.new.devices)
    c.in_err-compact.field-0.0 c.in_err-compact.ensures.cause)

pub returns-in_err-compact-clause-more : goal.returns-in_err-compact-clause-more
returns-in_err-compact-clause-more g c =
    follows_all (g.D.Devices.history c.args.devices.now)
    (g.D.Devices.history c.answer_lines.new.devices) (g.D.Devices.history c.compact.new.devices)
    (follows_all (g.D.Devices.history c.args.devices.now) (g.D.Devices.history c.reads.devices)
    (g.D.Devices.history c.answer_lines.new.devices) c.reads.invariant.more
    c.answer_lines.ensures.more) c.compact.ensures.more
