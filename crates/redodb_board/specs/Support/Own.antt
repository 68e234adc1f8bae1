-- A worker's table on a command: whether its target is held, and on which word it steps.
use Rattle.std.specs.Prelude.{ℕ, Bool, false, List, Option, Some, None}
use Rattle.redodb_model.specs.Command.{Command, target_of}
use Rattle.redodb_journal.specs.declared.holds.Hold.{Hold}
use Rattle.redodb_journal.specs.Holds.{hold_at}
use Rattle.redodb_board.specs.Core.{Way, way}

abbrev pub table_holds : List Hold → Option ℕ → Bool
table_holds holds None = false
table_holds holds (Some t) = (hold_at holds t).held

abbrev pub table_builds : List Hold → Option ℕ → Bool
table_builds holds None = false
table_builds holds (Some t) = (hold_at holds t).building

-- whether the command's target is held
abbrev pub holds_its_target : List Hold → Command ℕ → Bool
holds_its_target holds x = table_holds holds (target_of x)

-- the word that the command steps on
abbrev pub way_by : List Hold → Command ℕ → Way
way_by holds x = way x (holds_its_target holds x) (table_builds holds (target_of x))
