-- What is required of a line so that its text is read again.
use Rattle.std.specs.Prelude.{◌≡◌, ℕ, ◌<◌, ◌≤◌, List, length}
use Rattle.redodb_model.specs.Names.{Text}
use Rattle.redodb_model.specs.Command.{Command}
use Rattle.redodb_model.specs.History.{Line}
use Rattle.redodb_text.specs.Grammar.{HasForm, IsShort, with_names}
use Rattle.redodb_text.specs.Texts.{command_text_of}
use Rattle.redodb_text.specs.Replies.{HasReplyForm}
use Rattle.redodb_history.specs.HistoryTexts.{names_in_line}

-- the command's words have its form, and its text is short
abbrev pub IsSaid : Command Text → Type 0
IsSaid command = HasForm command × IsShort (command_text_of command)

-- one of that many sessions says the command
pub record IsLineSaid (most : ℕ) (line : Line Text) : Type 0 where
  pub session : line.session < most
  pub said : IsSaid line.command

-- what is required of a line so that its text is read again, where there are that many sessions
pub record HasLineForm (most : ℕ) (line : Line Text) : Type 0 where
  pub session : line.session < most
  pub command : HasForm line.command
  pub short : IsShort (command_text_of line.command)
  pub reply : HasReplyForm line.reply

-- after are the names with those of the line, and not too many
abbrev pub AddsLineNames : List Text → Line Text → List Text → Type 0
AddsLineNames names line after =
    (after ≡ with_names names (names_in_line line)) × (length after ≤ 65536)
