-- Why a command wasn't answered in this many bytes.
use Rattle.std.specs.Prelude.{◌≡◌, ℕ, ◌<◌, List, [], ◌∷◌, ◌++◌, length}
use Rattle.std.specs.List.{flat_map}
use Rattle.redodb_model.specs.Names.{Text, texts, text_at}
use Rattle.redodb_model.specs.Command.{Command}
use Rattle.redodb_model.specs.History.{Line, left_by}
use Rattle.redodb_model.specs.Renaming.{named_command}
use Rattle.redodb_model.specs.Step.{Answers}
use Rattle.redodb_text.specs.Grammar.{IsCommandLine, AddsNames}
use Rattle.redodb_history.specs.Histories.{line_text_of}
use Rattle.redodb_live.specs.Support.Ended.{IsEnded, end_text}
use Rattle.redodb_live.specs.Support.LiveState.{LiveState, state_in}
use Rattle.redodb_live.specs.Support.Appended.{IsUnansweredFor}
use Rattle.redodb_live.specs.declared.fault.Unanswered.TheVariants.{Memory}
use Rattle.redodb_live.specs.declared.fault.AnswerFault.{AnswerFault}
use Rattle.redodb_live.specs.declared.fault.AnswerFault.TheVariants.{Unanswered, TooLong}

-- the line that answers the session's command, over the names that its numbers stand for, has so
-- many bytes
pub record WouldObey (live : LiveState) (session : ℕ) (command : Command ℕ) (size : ℕ) : Type 0
  where
    pub line : Line Text
    pub session_is : line.session ≡ session
    pub command_is : line.command ≡ named_command (text_at live.names) command
    pub answers : Answers texts (state_in live) session line.command line.reply
    pub size_is : size ≡ length (line_text_of line)

-- memory ran out, or that line is longer than `most`
abbrev pub IsUnobeyedFor : LiveState → ℕ → Command ℕ → ℕ → AnswerFault → Type 0
IsUnobeyedFor live session command most (Unanswered why) = why ≡ Memory
IsUnobeyedFor live session command most (TooLong size) =
    (most < size) × WouldObey live session command size

-- the line that answers the session's text has this many bytes
pub record WouldAnswer (live : LiveState) (session : ℕ) (text : Text) (size : ℕ) : Type 0 where
  pub line : Line Text
  pub session_is : line.session ≡ session
  pub parsed : IsCommandLine text line.command
  pub names_after : List Text
  pub named : AddsNames 16777216 live.names (line.command ∷ []) names_after
  pub answers : Answers texts (state_in live) session line.command line.reply
  pub size_is : size ≡ length (line_text_of line)

-- the cause, or that line is longer than `most`
abbrev pub IsAnswerFaultFor : LiveState → ℕ → Text → ℕ → AnswerFault → Type 0
IsAnswerFaultFor live session text most (Unanswered why) = IsUnansweredFor live text why
IsAnswerFaultFor live session text most (TooLong size) =
    (most < size) × WouldAnswer live session text size

-- the answer to the session's end has this many bytes
pub record WouldEnd (live : LiveState) (session size : ℕ) : Type 0 where
  pub lines : List (Line Text)
  pub is : IsEnded (state_in live) (left_by texts (state_in live) lines) session lines
  pub size_is : size ≡ length (flat_map line_text_of lines ++ end_text session)

-- memory ran out, or that is longer than `most`
abbrev pub IsUnendedFor : LiveState → ℕ → ℕ → AnswerFault → Type 0
IsUnendedFor live session most (Unanswered why) = why ≡ Memory
IsUnendedFor live session most (TooLong size) = (most < size) × WouldEnd live session size

-- memory ran out, or this text is longer than `most`
abbrev pub IsUnwrittenFor : Text → ℕ → AnswerFault → Type 0
IsUnwrittenFor text most (Unanswered why) = why ≡ Memory
IsUnwrittenFor text most (TooLong size) = (most < size) × (size ≡ length text)
