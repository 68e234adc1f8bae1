-- Lines of a history: their texts and their names.
use Rattle.std.specs.Prelude.{List, []}
use Rattle.std.specs.List.{flat_map}
use Rattle.redodb_model.specs.Names.{Text}
use Rattle.redodb_model.specs.Command.{names_in}
use Rattle.redodb_model.specs.History.{Line}
use Rattle.redodb_text.specs.Grammar.{with_names}
use Rattle.redodb_history.specs.Histories.{line_text_of}

-- the lines' texts, one after the other
abbrev pub lines_text_of : List (Line Text) → Text
lines_text_of lines = flat_map line_text_of lines

-- the names of the lines' commands, in the order of their first occurrence
abbrev pub names_after : List (Line Text) → List Text
names_after lines = with_names [] (flat_map (λ line. names_in line.command) lines)
