-- The texts of histories.
use Rattle.std.specs.Prelude.{ℕ, ◌+◌, List, [], ◌∷◌, ◌++◌, length, codes, decimal}
use Rattle.std.specs.List.{flat_map}
use Rattle.redodb_model.specs.Names.{Text}
use Rattle.redodb_model.specs.History.{Line}
use Rattle.redodb_text.specs.Texts.{command_text_of, reply_text_of}

-- a line's end
abbrev pub ended : Text → Text
ended text = text ++ 10 ∷ []

-- a command and its reply
abbrev pub answer_text_of : Line Text → Text
answer_text_of line = command_text_of line.command ++ codes " => " ++ reply_text_of line.reply

-- sessions are printed plus one
abbrev pub line_text_of : Line Text → Text
line_text_of line = ended (decimal (line.session + 1) ++ codes " " ++ answer_text_of line)

-- how many lines there are
abbrev pub header_of : ℕ → Text
header_of count = ended (codes "history " ++ decimal count)

abbrev pub history_text_of : List (Line Text) → Text
history_text_of lines = header_of (length lines) ++ flat_map line_text_of lines
