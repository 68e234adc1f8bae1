-- The rows of a board: one for each line of the plan whose command isn't a lock, and one more for
-- each start.
use Rattle.std.specs.Prelude.{ℕ, ◌+◌, List, [], ◌∷◌, slice_index_or}
use Rattle.redodb_model.specs.Names.{Naming, by_text}
use Rattle.redodb_model.specs.Command.{Command, Item, Lock, Start, Ood, commands_in}
use Rattle.redodb_journal.specs.Plans.{PlanOf, script_of}

-- numbers are ordered as their names
abbrev pub naming_of : PlanOf → Naming ℕ
naming_of p = by_text p.names

-- the command of the line with this number in the session's script
abbrev pub command : PlanOf → ℕ → ℕ → Command ℕ
command p s number = slice_index_or (commands_in (script_of p s)) number Ood

-- the rows that a line may need: a lock none; a start one, and one more for a closing `failed`
abbrev pub rows_for : Command ℕ → ℕ
rows_for (Lock t) = 0
rows_for (Start t) = 2
rows_for command = 1

abbrev pub rows_in : List (Item ℕ) → ℕ
rows_in [] = 0
rows_in (x ∷ xs) = rows_for x.command + rows_in xs

abbrev pub rows_in_all : List (List (Item ℕ)) → ℕ
rows_in_all [] = 0
rows_in_all (x ∷ xs) = rows_in x + rows_in_all xs

-- how many rows the board has
abbrev pub rows_of : PlanOf → ℕ
rows_of p = rows_in_all p.scripts
