-- The command of an entry, as the code has it.
use Rattle.std.specs.Prelude.{ℕ}
use Rattle.redodb_model.specs.Command as commands
use Rattle.redodb_commands.specs.Meaning.{command_of}
use Rattle.redodb_journal.specs.declared.entry.CommandDone.{CommandDone}
use Rattle.redodb_journal.specs.declared.entry.CommandDone.TheVariants.{OfLine, Closing}

abbrev pub command_done : CommandDone → commands.Command ℕ
command_done (OfLine command) = command_of command.now
command_done (Closing command) = command_of command
