-- The kind of a command, what an item means, and what both mean over the names of their numbers.
use Rattle.std.specs.Prelude.{ℕ, List}
use Rattle.redodb_model.specs.Names.{Text, text_at}
use Rattle.redodb_model.specs.Command as commands
use Rattle.redodb_model.specs.Renaming.{named_command, named_item}
use Rattle.redodb_commands.specs.declared.command.Command.{Command}
use Rattle.redodb_commands.specs.declared.script.Item.{Item}
use Rattle.redodb_commands.specs.declared.kind.Kind.{Kind}
use Rattle.redodb_commands.specs.declared.kind.Kind.TheVariants as kinds
use Rattle.redodb_commands.specs.Meaning.{command_of}

-- the case alone
abbrev pub kind_for : {N : Type 0} → commands.Command N → Kind
kind_for (commands.File n stamp) = kinds.File
kind_for (commands.Gone n) = kinds.Gone
kind_for (commands.Lock t) = kinds.Lock
kind_for (commands.Unlock t) = kinds.Unlock
kind_for (commands.Start t) = kinds.Start
kind_for (commands.IfChange t ns) = kinds.IfChange
kind_for (commands.IfCreate t ns) = kinds.IfCreate
kind_for (commands.Always t) = kinds.Always
kind_for (commands.Stamp t content) = kinds.Stamp
kind_for (commands.Done t stamp) = kinds.Done
kind_for (commands.Failed t) = kinds.Failed
kind_for commands.Ood = kinds.Ood
kind_for commands.Targets = kinds.Targets
kind_for commands.Sources = kinds.Sources

abbrev pub kind_of : Command → Kind
kind_of command = kind_for (command_of command)

abbrev pub item_of : Item → commands.Item ℕ
item_of item = record { guarded = item.guarded; command = command_of item.command }

-- under the names that the numbers stand for
abbrev pub command_at : List Text → Command → commands.Command Text
command_at names command = named_command (text_at names) (command_of command)

abbrev pub item_at : List Text → Item → commands.Item Text
item_at names item = named_item (text_at names) (item_of item)
