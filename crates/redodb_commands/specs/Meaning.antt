-- What the values of the code mean: over numbers, and over the names that the numbers stand for.
use Rattle.std.specs.Prelude.{ℕ, List, box_value, option_map}
use Rattle.redodb_model.specs.Names.{Text, text_at}
use Rattle.redodb_model.specs.Command as commands
use Rattle.redodb_model.specs.Reply as replies
use Rattle.redodb_model.specs.History as histories
use Rattle.redodb_model.specs.Renaming.{named_reply, named_line}
use Rattle.redodb_commands.specs.declared.command.Command.{Command}
use Rattle.redodb_commands.specs.declared.command.Command.TheVariants.{File, Gone, Lock, Unlock, Start, IfChange, IfCreate, Always, Stamp, Done, Failed, Ood, Targets, Sources}
use Rattle.redodb_commands.specs.declared.reply.Refusal.{Refusal}
use Rattle.redodb_commands.specs.declared.reply.Refusal.TheVariants.{NotLocked, Building, NotBuilding, Itself, Exists}
use Rattle.redodb_commands.specs.declared.reply.Reply.{Reply}
use Rattle.redodb_commands.specs.declared.reply.Reply.TheVariants as coded
use Rattle.redodb_commands.specs.declared.reply.Line.{Line}

abbrev pub command_of : Command → commands.Command ℕ
command_of (File n stamp) = commands.File n (box_value stamp)
command_of (Gone n) = commands.Gone n
command_of (Lock t) = commands.Lock t
command_of (Unlock t) = commands.Unlock t
command_of (Start t) = commands.Start t
command_of (IfChange t names) = commands.IfChange t names.items
command_of (IfCreate t names) = commands.IfCreate t names.items
command_of (Always t) = commands.Always t
command_of (Stamp t content) = commands.Stamp t content.items
command_of (Done t stamp) = commands.Done t (option_map box_value stamp)
command_of (Failed t) = commands.Failed t
command_of Ood = commands.Ood
command_of Targets = commands.Targets
command_of Sources = commands.Sources

abbrev pub refusal_of : Refusal → replies.Refusal ℕ
refusal_of NotLocked = replies.NotLocked
refusal_of Building = replies.Building
refusal_of NotBuilding = replies.NotBuilding
refusal_of Itself = replies.Itself
refusal_of (Exists n) = replies.Exists n

abbrev pub reply_of : Reply → replies.Reply ℕ
reply_of coded.Okay = replies.Okay
reply_of (coded.Granted g) = replies.Granted g
reply_of (coded.Busy g) = replies.Busy g
reply_of (coded.Stale names) = replies.Stale names.items
reply_of (coded.Stamped digest) = replies.Stamped digest.bytes
reply_of (coded.Ood names) = replies.Ood names.items
reply_of (coded.Targets names) = replies.Targets names.items
reply_of (coded.Sources names) = replies.Sources names.items
reply_of (coded.Refused refusal) = replies.Refused (refusal_of refusal)

abbrev pub line_of : Line → histories.Line ℕ
line_of line = record {
  session = line.session;
  command = command_of line.command;
  reply = reply_of line.reply;
}

abbrev pub reply_at : List Text → Reply → replies.Reply Text
reply_at names reply = named_reply (text_at names) (reply_of reply)

abbrev pub line_at : List Text → Line → histories.Line Text
line_at names line = named_line (text_at names) (line_of line)
