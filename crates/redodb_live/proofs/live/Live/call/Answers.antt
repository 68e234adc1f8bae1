use Rattle.std.proofs.Common.{◌∙◌, ap, sym, subst}
use Rattle.redodb_names.specs.Support.Names.{AreNames}
use Rattle.redodb_commands.specs.Meaning.{command_of, reply_of}
use Rattle.redodb_live.specs.Support.LiveState.{LiveState}
use Rattle.redodb_live.proofs.Calling.{called_answers, called_below, called_after, called_keeps}
use Rattle.redodb_live.proofs.live.Live.call.Goals as goal

pub invariant_of-self-2 : goal.invariant_of-self-2
invariant_of-self-2 c =
    let are = subst AreNames (ap (λ (l : LiveState). l.names) c.self.view_is) c.are_names.ensures in
    let kept = called_keeps c.args.self.now c.grow.new.self c.self-2.inside.names
    c.self-2.inside.redo
    c.call.new.self c.self-2.view_is c.grow.ensures.names c.grow.ensures.known are
    c.self-2.invariant.state c.args.session (command_of c.args.command.now) c.requires.below
    (reply_of c.in_ok-reply.reply) (reply_of c.ordered.result) c.in_ok-reply.ensures.answers
    c.ordered.ensures c.in_ok-reply.ensures.after
    c.requires.calls c.in_ok-reply.ensures.calls in
    record {
      few = c.self-2.invariant.few;
      state = kept;
      numbers = c.self-2.invariant.numbers ∙ sym c.call.ensures.count;
    }

pub returns-clause-answers : goal.returns-clause-answers
returns-clause-answers c =
    let are = subst AreNames (ap (λ (l : LiveState). l.names) c.self.view_is) c.are_names.ensures in
    called_answers c.args.self.now c.grow.new.self c.self-2.inside.names c.self-2.inside.redo
    c.call.new.self c.self-2.view_is c.grow.ensures.names c.grow.ensures.known are
    c.self-2.invariant.state c.args.session (command_of c.args.command.now) c.requires.below
    (reply_of c.in_ok-reply.reply) (reply_of c.ordered.result) c.in_ok-reply.ensures.answers
    c.ordered.ensures c.in_ok-reply.ensures.after

pub returns-clause-after : goal.returns-clause-after
returns-clause-after c =
    let are = subst AreNames (ap (λ (l : LiveState). l.names) c.self.view_is) c.are_names.ensures in
    called_after c.args.self.now c.grow.new.self c.self-2.inside.names c.self-2.inside.redo
    c.call.new.self c.self-2.view_is c.grow.ensures.names c.grow.ensures.known are
    c.self-2.invariant.state c.args.session (command_of c.args.command.now) c.requires.below
    (reply_of c.in_ok-reply.reply) (reply_of c.ordered.result) c.in_ok-reply.ensures.answers
    c.ordered.ensures c.in_ok-reply.ensures.after

pub returns-clause-below : goal.returns-clause-below
returns-clause-below c =
    let are = subst AreNames (ap (λ (l : LiveState). l.names) c.self.view_is) c.are_names.ensures in
    called_below c.args.self.now c.grow.new.self c.self-2.inside.names c.self-2.inside.redo
    c.call.new.self c.self-2.view_is c.grow.ensures.names c.grow.ensures.known are
    c.self-2.invariant.state c.args.session (command_of c.args.command.now) c.requires.below
    (reply_of c.in_ok-reply.reply) (reply_of c.ordered.result) c.in_ok-reply.ensures.answers
    c.ordered.ensures c.in_ok-reply.ensures.after
