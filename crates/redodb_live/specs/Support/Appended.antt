-- The contracts of the database's inner calls.
use Rattle.std.specs.Prelude.{◌≡◌, ℕ, ◌+◌, ◌*◌, ◌^◌, ◌≤◌, List, ◌++◌, Some, length, true, ⊤}
use Rattle.std.specs.List.{flat_map}
use Rattle.redodb_names.specs.Support.Names.{AreNames}
use Rattle.redodb_model.specs.Names.{Text, texts, text_at, by_number, by_text}
use Rattle.redodb_model.specs.Command.{Command}
use Rattle.redodb_model.specs.History.{Line}
use Rattle.redodb_model.specs.Renaming.{IsBelow, named_command}
use Rattle.redodb_model.specs.Step.{Answers, after}
use Rattle.redodb_commands.specs.Meaning.{command_of, reply_of}
use Rattle.redodb_commands.specs.declared.reply.Line.{Line as LineOfNumbers}
use Rattle.redodb_commands.specs.declared.reply.Reply.{Reply as ReplyOfNumbers}
use Rattle.redodb_text.specs.Questions.{line_fault}
use Rattle.redodb_text.specs.declared.fault.ReadFault.{ReadFault}
use Rattle.redodb_text.specs.declared.fault.ReadFault.TheVariants as read
use Rattle.redodb_database.specs.Tables.{has_room_for, state_of, tables_count}
use Rattle.redodb_history.specs.Histories.{line_text_of}
use Rattle.redodb_live.specs.Support.Answered.{IsAnswered, logged_text}
use Rattle.redodb_live.specs.Support.Ended.{IsEnded, end_text}
use Rattle.redodb_live.specs.Support.LiveState.{LiveState, HasCallsLeft, state_in, calls_in}
use Rattle.redodb_live.specs.Support.Ordered.{IsSortedReply}
use Rattle.redodb_live.specs.declared.fault.Unanswered.{Unanswered}
use Rattle.redodb_live.specs.declared.fault.Unanswered.TheVariants.{Memory, Worn, Fault}

-- why a text that can't be read isn't answered
abbrev pub unread : ReadFault → Unanswered
unread read.Memory = Memory
unread (read.Line number fault) = Fault fault

-- too few calls are left for one more command, which may name 65 new names, and for closing then
abbrev pub IsWorn : LiveState → Type 0
IsWorn live = 2 ^ 32 ≤ calls_in live + 1 + 2 * (length live.names + 65)

-- the cause: the line's fault, or that fewer calls are left than closing may take
abbrev pub IsUnansweredFor : LiveState → Text → Unanswered → Type 0
IsUnansweredFor live text Memory = ⊤
IsUnansweredFor live text Worn = IsWorn live
IsUnansweredFor live text (Fault fault) = line_fault 16777216 live.names text ≡ Some fault

-- the reply is the database's to the line's command, and the line has it with its names in the
-- order of their texts; a call is left for the command, and memory is reserved for its change
pub record IsDue (live : LiveState) (line : LineOfNumbers) (reply : ReplyOfNumbers) : Type 0 where
  pub names : AreNames live.names
  pub few_names : length live.names ≤ 16777216
  pub calls : HasCallsLeft live
  pub count : length live.names ≤ tables_count live.tables
  pub below : IsBelow (length live.names) (command_of line.command)
  pub room : has_room_for live.tables (command_of line.command) ≡ true
  pub answers : Answers by_number (state_of live.tables) line.session (command_of line.command)
      (reply_of reply)
  pub sorted : IsSortedReply (by_text live.names).order (reply_of reply) (reply_of line.reply)

-- the line was appended to `output`, and to `logged` if it changes something
pub record AppendsLine (old new : LiveState) (line : Line Text) (output output_after logged
    logged_after : Text) : Type 0 where
  pub writes : output_after ≡ output ++ line_text_of line
  pub logs : logged_after ≡ logged ++ logged_text (state_in old) line
  pub calls : calls_in new ≡ calls_in old + 1

-- a line answers the session's command, over the names that its numbers stand for
pub record IsObeyed (old new : LiveState) (session : ℕ) (command : Command ℕ)
    (output output_after logged logged_after : Text) : Type 0 where
  pub line : Line Text
  pub session_is : line.session ≡ session
  pub command_is : line.command ≡ named_command (text_at old.names) command
  pub answers : Answers texts (state_in old) session line.command line.reply
  pub after_is : state_in new ≡ after texts (state_in old) session line.command
  pub appended : AppendsLine old new line output output_after logged logged_after

-- a line answers the text
pub record AnswersText (old new : LiveState) (session : ℕ) (text : Text)
    (output output_after logged logged_after : Text) : Type 0 where
  pub line : Line Text
  pub is : IsAnswered (state_in old) (state_in new) old.names new.names session text line
  pub appended : AppendsLine old new line output output_after logged logged_after

-- nothing was appended to `output` or `logged`
pub record AppendsNothing (output output_after logged logged_after : Text) : Type 0 where
  pub writes : output_after ≡ output
  pub logs : logged_after ≡ logged

-- the session ended by these lines, which were appended to `output` and `logged`, and then its end to
-- `output`
pub record EndsSession (old new : LiveState) (session : ℕ)
    (output output_after logged logged_after : Text) : Type 0 where
  pub lines : List (Line Text)
  pub is : IsEnded (state_in old) (state_in new) session lines
  pub names : new.names ≡ old.names
  pub calls : calls_in new ≡ calls_in old + length lines
  pub writes : output_after ≡ output ++ (flat_map line_text_of lines ++ end_text session)
  pub logs : logged_after ≡ logged ++ flat_map line_text_of lines
