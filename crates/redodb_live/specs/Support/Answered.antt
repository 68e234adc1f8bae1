-- The answer to a session's command.
use Rattle.std.specs.Prelude.{◌≡◌, ℕ, List, [], ◌∷◌, if◌then◌else◌}
use Rattle.redodb_model.specs.Names.{Text, texts}
use Rattle.redodb_model.specs.State.{State}
use Rattle.redodb_model.specs.History.{Line}
use Rattle.redodb_model.specs.Step.{Answers, after}
use Rattle.redodb_model.specs.Changes.{changes}
use Rattle.redodb_text.specs.Grammar.{IsCommandLine, AddsNames}
use Rattle.redodb_history.specs.Histories.{line_text_of}

-- the line is the session's command of the text, with the database's reply to it; the new state is
-- the one after the command, and its names are added
pub record IsAnswered (old new : State Text) (names names_after : List Text) (session : ℕ)
    (text : Text) (line : Line Text) : Type 0 where
  pub session_is : line.session ≡ session
  pub parsed : IsCommandLine text line.command
  pub named : AddsNames 16777216 names (line.command ∷ []) names_after
  pub answers : Answers texts old session line.command line.reply
  pub after_is : new ≡ after texts old session line.command

-- what the log gets of a line that is answered in this state: its text, if it changes something
abbrev pub logged_text : State Text → Line Text → Text
logged_text st line =
    if changes st.records line.command line.reply then line_text_of line else []
