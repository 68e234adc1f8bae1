-- Which texts are histories.
use Rattle.std.specs.Prelude.{◌≡◌, ◌+◌, ◌<◌, ◌≤◌, List, [], ◌∷◌, ◌++◌, length, codes, decimal, ⊤}
use Rattle.std.specs.List.{flat_map}
use Rattle.redodb_model.specs.Names.{Text}
use Rattle.redodb_model.specs.Command.{names_in}
use Rattle.redodb_model.specs.History.{Line}
use Rattle.redodb_text.specs.Grammar.{IsCommandLine, with_names}
use Rattle.redodb_text.specs.Replies.{IsReplyText, names_in_reply}
use Rattle.redodb_history.specs.Histories.{ended, header_of}

-- the text, without its LF, is the line's: its session's number, its command and its reply
pub record IsHistoryLine (text : Text) (line : Line Text) : Type 0 where
  pub session : line.session < 64
  pub command : Text
  pub reply : Text
  pub parts : text ≡ decimal (line.session + 1) ++ codes " " ++ command ++ codes " => " ++ reply
  pub said : IsCommandLine command line.command
  pub answered : IsReplyText reply line.reply

-- each text is its line's
abbrev pub AreHistoryLines : List Text → List (Line Text) → Type 0
AreHistoryLines [] [] = ⊤
AreHistoryLines [] (line ∷ lines) = ⊥
AreHistoryLines (text ∷ texts) [] = ⊥
AreHistoryLines (text ∷ texts) (line ∷ lines) =
    IsHistoryLine text line × AreHistoryLines texts lines

-- its names, in the order in which they are written
abbrev pub names_in_line : Line Text → List Text
names_in_line line = names_in line.command ++ names_in_reply line.reply

-- after are the names of the lines, each once, in the order of their first occurrence, and not too
-- many
abbrev pub AreNamesOf : List (Line Text) → List Text → Type 0
AreNamesOf lines after =
    (after ≡ with_names [] (flat_map names_in_line lines)) × (length after ≤ 65536)

-- the texts are these lines, one by one, with these names
pub record AreLinesOf (texts : List Text) (lines : List (Line Text)) (names : List Text)
    : Type 0 where
  pub each : AreHistoryLines texts lines
  pub named : AreNamesOf lines names

-- the input is a history of these lines and names: a header, as many lines as it says, and then
-- anything
pub record IsHistory (input : Text) (names : List Text) (lines : List (Line Text)) : Type 0 where
  pub few : length lines ≤ 1048576
  pub texts : List Text
  pub rest : Text
  pub parts : input ≡ header_of (length lines) ++ flat_map ended texts ++ rest
  pub read : AreLinesOf texts lines names
