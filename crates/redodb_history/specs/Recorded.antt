-- Lines over numbers, as the code has them.
use Rattle.std.specs.Prelude.{List, length}
use Rattle.std.specs.List.{AllByRecursion}
use Rattle.redodb_model.specs.Names.{Text}
use Rattle.redodb_model.specs.Renaming.{IsLineBelow}
use Rattle.redodb_commands.specs.Meaning.{line_of}
use Rattle.redodb_commands.specs.declared.reply.Line as coded

-- the numbers of the lines are those of the names
abbrev pub AreLinesBelow : List Text → List coded.Line → Type 0
AreLinesBelow names lines = AllByRecursion (λ line. IsLineBelow (length names) (line_of line)) lines
