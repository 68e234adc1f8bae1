use Rattle.std.proofs.Common.{◌≡◌, ◌∙◌, sym, subst}
use Rattle.redodb_model.specs.Names.{by_number}
use Rattle.redodb_model.specs.Step.{after}
use Rattle.redodb_commands.specs.Meaning.{command_of, reply_of}
use Rattle.redodb_database.specs.Tables.{Tables, state_of}
use Rattle.redodb_database.proofs.Obeyed.{stopped_call}
use Rattle.redodb_database.proofs.redo.Redo.change.Goals as goal

pub returns-then-lets_through-clause-after : goal.returns-then-lets_through-clause-after
returns-then-lets_through-clause-after c =
    subst (λ (t : Tables). state_of c.obey.new.self ≡ after by_number (state_of t)
    c.args.session (command_of c.args.command.now)) c.count_call.ensures.after c.obey.ensures.after

pub returns-else-lets_through-clause-after : goal.returns-else-lets_through-clause-after
returns-else-lets_through-clause-after c =
    stopped_call c.args.self.now c.count_call.new.self c.args.session
    (command_of c.args.command.now) (reply_of c.args.reply.now) c.requires.answers
    (sym c.lets_through.ensures ∙ c.if-lets_through.false) c.count_call.ensures.after
