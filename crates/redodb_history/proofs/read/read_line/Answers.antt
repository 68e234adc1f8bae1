use Rattle.std.proofs.Common.{◌≡◌, [], ◌∷◌, inl, inr, refl, sym, subst, arith}
use Rattle.std.proofs.lemmas.Grind.{common_steps}
use Rattle.redodb_model.specs.Names.{Text}
use Rattle.redodb_model.specs.Command as commands
use Rattle.redodb_commands.specs.Meaning.{command_of, line_at}
use Rattle.redodb_commands.specs.Support.Meaning.{command_at}
use Rattle.redodb_text.specs.Grammar.{IsCommandLine, AddsNames}
use Rattle.redodb_text.proofs.Added.{command_at-Extends, IsBelow-Extends}
use Rattle.redodb_history.specs.HistoryFaults.{IsNoReply}
use Rattle.redodb_history.proofs.LineParts.{line_parts, line_named}
use Rattle.redodb_history.proofs.read.read_line.Goals as goal

pub returns-in-Err-BadReply-clause-fault : goal.returns-in-Err-BadReply-clause-fault
returns-in-Err-BadReply-clause-fault c =
    let mid = c.read_command.new.names in
    let none : IsNoReply mid c.in-Some-cut_at_arrow.reply.now =
    λ reply after is adds. elim (c.in-Err-BadReply.ensures.only reply after is adds)
    [ inl memory ↦ absurd cc | inr ok ↦ ok ] in (
      refl,
      (
        c.cut_at_space.result.1.now,
        (
          c.cut_at_space.result.0.now,
          c.in-Some.session,
          c.cut_at_space.ensures,
          c.in-Some.ensures,
        ),
        inr (
          c.in-Some-cut_at_arrow.command.now,
          c.in-Some-cut_at_arrow.reply.now,
          command_at mid c.in-Ok.command,
          mid,
          c.in-Some-cut_at_arrow.ensures,
          c.in-Ok.ensures.read.0,
          c.in-Ok.ensures.read.1,
          none,
        ),
      ),
    )

pub returns-clause-read : goal.returns-clause-read
returns-clause-read c =
    let mid = c.read_command.new.names in
    let new = c.read_reply.new.names in
    let said : command_at new c.in-Ok.command ≡ command_at mid c.in-Ok.command =
    command_at-Extends mid new c.in-Ok.command c.read_reply.ensures.kept
    c.in-Ok.ensures.within in
    record {
      session = c.in-Some.ensures.0;
      command = c.in-Some-cut_at_arrow.command.now;
      reply = c.in-Some-cut_at_arrow.reply.now;
      parts = line_parts c.in-Some.session c.cut_at_space.ensures c.in-Some.ensures
          c.in-Some-cut_at_arrow.ensures;
      said = subst (λ (command : commands.Command Text).
          IsCommandLine c.in-Some-cut_at_arrow.command.now command) (sym said)
          c.in-Ok.ensures.read.0;
      answered = c.in-Ok-read_reply.ensures.read.0;
    }

pub returns-clause-named : goal.returns-clause-named
returns-clause-named c =
    let mid = c.read_command.new.names in
    let new = c.read_reply.new.names in
    let said : command_at new c.in-Ok.command ≡ command_at mid c.in-Ok.command =
    command_at-Extends mid new c.in-Ok.command c.read_reply.ensures.kept
    c.in-Ok.ensures.within in
    line_named c.args.names.now mid new (line_at new record {
      session = c.in-Some.session;
      command =
          c.in-Ok.command;
      reply = c.in-Ok-read_reply.reply;
    })
    (subst (λ (command : commands.Command Text). AddsNames 65536 c.args.names.now
    (command ∷ []) mid)
    (sym said) c.in-Ok.ensures.read.1) c.in-Ok-read_reply.ensures.read.1

pub returns-clause-below : goal.returns-clause-below
returns-clause-below c = (
  IsBelow-Extends c.read_command.new.names c.read_reply.new.names (command_of c.in-Ok.command)
      c.read_reply.ensures.kept c.in-Ok.ensures.within,
  c.in-Ok-read_reply.ensures.within,
)

pub returns-clause-kept : goal.returns-clause-kept
returns-clause-kept c = grind (arith, common_steps)
