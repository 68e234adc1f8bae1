use Rattle.std.proofs.Common.{ℕ, sym, subst}
use Rattle.redodb_model.specs.Names.{by_number}
use Rattle.redodb_model.specs.Command.{Command}
use Rattle.redodb_model.specs.Step.{Answers}
use Rattle.redodb_model.proofs.LetThrough.{lock_asked}
use Rattle.redodb_commands.specs.Meaning.{command_of, reply_of}
use Rattle.redodb_database.specs.Tables.{state_of}
use Rattle.redodb_database.proofs.redo.Redo.reply.Goals as goal

pub returns-in-Some-clause-answers : goal.returns-in-Some-clause-answers
returns-in-Some-clause-answers c =
    subst
    (λ (asked : Command ℕ). Answers by_number (state_of c.args.self.now)
    c.args.session asked (reply_of c.lock_reply.result))
    (sym (lock_asked (command_of c.args.command.now) c.in-Some.t (sym c.in-Some.ensures)))
    (c.lock_reply.ensures.answers c.args.session)
