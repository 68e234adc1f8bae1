use Rattle.std.proofs.Common.{◌∙◌, ap, sym}
use Rattle.redodb_commands.specs.Meaning.{command_of, reply_of}
use Rattle.redodb_database.specs.Tables.{Tables, state_of}
use Rattle.redodb_database.proofs.Obeyed.{called_in, stopped_call}
use Rattle.redodb_database.proofs.redo.Redo.call.Goals as goal
use Rattle.redodb_database.proofs.redo.Redo.call.Goals.{then-lets_through+in_ok-reserve, else-lets_through}

pub returns-clause-after : goal.returns-clause-after
returns-clause-after c =
    let old : Tables = c.args.self.now in
    let command = command_of c.args.command.now in
    elim c.if-lets_through.branch [
      | then-lets_through+in_ok-reserve w ↦ ap state_of w.self-is
          ∙ called_in old w.reserve.new.self w.change.new.self c.args.session command
          w.in_ok-reserve.ensures.same w.change.ensures.after
      | else-lets_through w ↦ ap state_of w.self-is
          ∙ stopped_call old w.count_call.new.self c.args.session command
          (reply_of c.in_ok-reply.reply) c.in_ok-reply.ensures.answers
          (sym c.lets_through.ensures ∙ w.if-lets_through.false) w.count_call.ensures.after
    ]
