use Rattle.std.proofs.Common.{◌≤◌, [], ◌∷◌, ◌++◌, sym, ap, subst, length, length-append, append-nil, arith}
use Rattle.redodb_conversation.specs.Support.KeptLines.{IsPrefixOf}
use Rattle.redodb_keeping.specs.Support.Steps.{known_of}
use Rattle.redodb_conversation.specs.Support.Places.{TalksAt, as_place}
use Rattle.redodb_conversation.proofs.Prefixes.{prefix_more, prefix_of_none, next_line}
use Rattle.redodb_conversation.proofs.Outcomes.{on_err, ok_by_three, err_then}
use Rattle.redodb_conversation.proofs.Responding.{sending_goes_on, sending_breaks_off}
use Rattle.redodb_conversation.proofs.Following.{follows_all, follows_itself, sending_follows}
use Rattle.redodb_conversation.proofs.answering.answer_lines.Goals as goal

pub lines-init : goal.lines-init
lines-init g c = record {
  room = c.requires.room;
  few = c.requires.few;
  talk = λ begun is start left same talk. (begun, is, talk);
  more = follows_itself (g.D.Devices.history c.args.devices.now);
}

pub answer_piece-requires-clause-room : goal.answer_piece-requires-clause-room
answer_piece-requires-clause-room g c = c.lines.invariant.room

pub answer_piece-requires-clause-few : goal.answer_piece-requires-clause-few
answer_piece-requires-clause-few g c = c.lines.invariant.few

pub answer_piece-requires-clause-free : goal.answer_piece-requires-clause-free
answer_piece-requires-clause-free g c = c.in-Some.ensures.1

pub returns-in_err-answer_piece-clause-broken :
    goal.returns-in_err-answer_piece-clause-broken
returns-in_err-answer_piece-clause-broken g c =
    on_err c.from_residual.result _ (λ begun is start left same talk.
    let (line, prefix, at) = c.lines.invariant.talk begun is start left same talk in
    let place = as_place c.lines.live (g.D.Devices.history c.lines.devices) c.lines.unsent in
    c.in_err-answer_piece.ensures.broken line c.in-Some.after.now prefix start left same
    (subst (TalksAt start left place)
    (next_line line c.lines.rest.now c.in-Some.piece.now c.in-Some.after.now c.in-Some.ensures.0)
    at))

pub returns-in_err-send_much-clause-broken : goal.returns-in_err-send_much-clause-broken
returns-in_err-send_much-clause-broken g c =
    on_err c.from_residual-in_err-send_much.result _ (λ begun is start left same talk.
    let (line, prefix, at) = c.lines.invariant.talk begun is start left same talk in
    let place = as_place c.lines.live (g.D.Devices.history c.lines.devices) c.lines.unsent in
    c.in_err-send_much.ensures.broken c.in-Some.after.now start left same
    (c.in_ok-answer_piece.ensures.talk line c.in-Some.after.now prefix start left same
    (subst (TalksAt start left place)
    (next_line line c.lines.rest.now c.in-Some.piece.now c.in-Some.after.now c.in-Some.ensures.0)
    at)))

pub lines-smaller : goal.lines-smaller
lines-smaller g c =
    omega (
      arith,
      ap length c.in-Some.ensures.0,
      length-append c.in-Some.piece.now (10 ∷ c.in-Some.after.now),
    )

pub lines-preserved : goal.lines-preserved
lines-preserved g c = record {
  room = c.answer_piece.ensures.room;
  few = subst (λ t. length t ≤ 8199) (sym c.in_ok-answer_piece.ensures.none) (omega arith);
  talk = λ begun is start left same talk.
      let (line, prefix, at) = c.lines.invariant.talk begun is start left same talk in
      let place = as_place c.lines.live (g.D.Devices.history c.lines.devices) c.lines.unsent in (
        [],
        prefix_of_none c.answer_piece.new.prefix.items c.in_ok-answer_piece.ensures.none,
        c.in_ok-send_much.ensures.talk c.in-Some.after.now start left same
            (c.in_ok-answer_piece.ensures.talk line c.in-Some.after.now prefix start left same
            (subst (TalksAt start left place)
            (next_line line c.lines.rest.now c.in-Some.piece.now c.in-Some.after.now
            c.in-Some.ensures.0) at)),
      );
  more = follows_all (g.D.Devices.history c.args.devices.now)
      (g.D.Devices.history c.answer_piece.new.devices)
      (g.D.Devices.history c.send_much.new.devices)
      (follows_all (g.D.Devices.history c.args.devices.now) (g.D.Devices.history c.lines.devices)
      (g.D.Devices.history c.answer_piece.new.devices) c.lines.invariant.more
      c.answer_piece.ensures.more) c.send_much.ensures.more;
}

pub keep-requires-clause-room : goal.keep-requires-clause-room
keep-requires-clause-room g c = c.lines.invariant.room

pub keep-requires-clause-few : goal.keep-requires-clause-few
keep-requires-clause-few g c = c.lines.invariant.few

pub returns-clause-talk : goal.returns-clause-talk
returns-clause-talk g c =
    ok_by_three c.send.result _ _ _ _ c.send.ensures.sent
    c.send.ensures.none_logged c.send.ensures.none_output
    (λ sent none_logged none_output begun is start left same talk.
    let (line, prefix, at) = c.lines.invariant.talk begun is start left same talk in
    let rest = c.lines.rest.now in (
      line ++ rest,
      subst (IsPrefixOf (line ++ rest)) (sym c.keep.ensures.kept)
          (prefix_more line rest c.lines.prefix.items c.in_default.ensures prefix),
      subst (TalksAt start left
          (as_place c.lines.live (g.D.Devices.history c.send.new.devices) c.send.new.unsent))
          (sym (append-nil (line ++ rest)))
          (sending_goes_on c.args.sync (known_of c.lines.live)
          (g.D.Devices.history c.lines.devices) (g.D.Devices.history c.send.new.devices)
          c.lines.unsent.logged.items c.send.new.unsent.logged.items
          c.lines.unsent.output.items c.send.new.unsent.output.items (line ++ rest)
          sent none_logged none_output start left same at),
    ))

pub returns-clause-broken : goal.returns-clause-broken
returns-clause-broken g c =
    err_then c.send.result _ _ c.send.ensures.part (λ part begun is start left same talk.
    let (line, prefix, at) = c.lines.invariant.talk begun is start left same talk in
    sending_breaks_off c.args.sync (known_of c.lines.live)
    (g.D.Devices.history c.lines.devices) (g.D.Devices.history c.send.new.devices)
    c.lines.unsent.logged.items c.send.new.unsent.logged.items
    c.lines.unsent.output.items c.send.new.unsent.output.items (line ++ c.lines.rest.now)
    part start left same at)

pub returns-in_err-answer_piece-clause-more : goal.returns-in_err-answer_piece-clause-more
returns-in_err-answer_piece-clause-more g c =
    follows_all (g.D.Devices.history c.args.devices.now) (g.D.Devices.history c.lines.devices)
    (g.D.Devices.history c.answer_piece.new.devices) c.lines.invariant.more
    c.answer_piece.ensures.more

pub returns-in_err-send_much-clause-more : goal.returns-in_err-send_much-clause-more
returns-in_err-send_much-clause-more g c =
    follows_all (g.D.Devices.history c.args.devices.now)
    (g.D.Devices.history c.answer_piece.new.devices) (g.D.Devices.history c.send_much.new.devices)
    (follows_all (g.D.Devices.history c.args.devices.now) (g.D.Devices.history c.lines.devices)
    (g.D.Devices.history c.answer_piece.new.devices) c.lines.invariant.more
    c.answer_piece.ensures.more) c.send_much.ensures.more

pub returns-clause-more : goal.returns-clause-more
returns-clause-more g c =
    follows_all (g.D.Devices.history c.args.devices.now) (g.D.Devices.history c.lines.devices)
    (g.D.Devices.history c.send.new.devices) c.lines.invariant.more
    (sending_follows c.send.result c.args.sync c.lines.unsent.logged.items
    c.lines.unsent.output.items (g.D.Devices.history c.lines.devices)
    (g.D.Devices.history c.send.new.devices) c.send.ensures.sent c.send.ensures.part)
