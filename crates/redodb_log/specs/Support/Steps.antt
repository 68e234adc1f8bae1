-- One line of a log after another.
use Rattle.std.specs.Prelude.{◌≡◌, ◌≢◌, ℕ, ◌+◌, List, [], ◌∷◌, ◌++◌, decimal}
use Rattle.redodb_model.specs.Names.{Text, texts}
use Rattle.redodb_model.specs.Step.{Answers, after}
use Rattle.redodb_model.specs.History.{Line}
use Rattle.redodb_text.specs.Grammar.{AddsNames}
use Rattle.redodb_history.specs.Histories.{line_text_of}
use Rattle.redodb_history.specs.HistoryFaults.{arrow}
use Rattle.redodb_history.specs.Support.HistoryTexts.{IsLineSaid}
use Rattle.redodb_live.specs.Support.LiveState.{LiveState, state_in, calls_in}
use Rattle.redodb_live.specs.Lines.{lines_text_of}
use Rattle.redodb_log.specs.Logs.{Past, past_lines, head_of, AreLogged, IsLogOf, IsPast}
use Rattle.redodb_log.specs.Restores.{IsLeftBy}

-- the text is that of a session's command, and then of an arrow and whatever follows
abbrev pub AsksFor : Text → ℕ → Text → Type 0
AsksFor text session wanted =
    (reply : Text) × (text ≡ decimal (session + 1) ++ 32 ∷ (wanted ++ arrow ++ reply))

-- the line can be the next one: it is the database's answer, and its names fit
pub record CanFollow (live : LiveState) (line : Line Text) : Type 0 where
  pub said : IsLineSaid 65535 line
  pub names : List Text
  pub named : AddsNames 16777216 live.names (line.command ∷ []) names
  pub answers : Answers texts (state_in live) line.session line.command line.reply

-- no line that can be the next one is at the beginning
abbrev pub NothingFollows : LiveState → Text → Type 0
NothingFollows live left =
    (line : Line Text) (rest : Text) → CanFollow live line → left ≢ line_text_of line ++ rest

-- the line at the beginning was done, and this is left; no other one can be the next
pub record DoesNext (old new : LiveState) (left rest : Text) : Type 0 where
  pub line : Line Text
  pub said : IsLineSaid 65535 line
  pub named : AddsNames 16777216 old.names (line.command ∷ []) new.names
  pub answers : Answers texts (state_in old) line.session line.command line.reply
  pub after_is : state_in new ≡ after texts (state_in old) line.session line.command
  pub calls : calls_in new ≡ calls_in old + 1
  pub parts : left ≡ line_text_of line ++ rest
  pub only : (other : Line Text) (others : Text) → CanFollow old other
      → left ≡ line_text_of other ++ others → other ≡ line

-- the lines of a log come after this past, whose state the database has
pub record BeginsAfter (past : Past) (log lines : Text) (live : LiveState) : Type 0 where
  pub is_past : IsPast past
  pub parts : log ≡ head_of past ++ lines
  pub left_by : IsLeftBy (past_lines past) live

-- these lines were done, and this is left of the log; any lines that it is a log of begin with
-- these
pub record IsDoneUpTo (past : Past) (log : Text) (lines : List (Line Text)) (live : LiveState)
    (left : Text) : Type 0 where
  pub is_past : IsPast past
  pub logged : AreLogged (past_lines past ++ lines)
  pub left_by : IsLeftBy (past_lines past ++ lines) live
  pub parts : log ≡ head_of past ++ lines_text_of lines ++ left
  pub only : (all : List (Line Text)) (torn : Text) → IsLogOf past log all torn
      → (others : List (Line Text)) × (all ≡ lines ++ others)
      × (left ≡ lines_text_of others ++ torn)
