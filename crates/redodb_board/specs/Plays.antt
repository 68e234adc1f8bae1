-- What a session does next by its own lines.
use Rattle.std.specs.Prelude.{ℕ, Bool, false, List, map, Option, Some, None}
use Rattle.std.specs.Ordering.{nat_cmp}
use Rattle.redodb_model.specs.Names.{Naming, numbers}
use Rattle.redodb_model.specs.Command.{Command, target_of}
use Rattle.redodb_model.specs.Placed.{line_of}
use Rattle.redodb_model.specs.Closing.{holds, builds}
use Rattle.redodb_model.specs.Journals.{Numbered, next_of}
use Rattle.redodb_journal.specs.Plans.{PlanOf, script_of}
use Rattle.redodb_board.specs.Rows.{naming_of}
use Rattle.redodb_board.specs.Core.{Line, way, Way}

-- numbers as names, in their own order
abbrev pub by_number : Naming ℕ
by_number = numbers nat_cmp

-- whether a session with these lines holds the target, and builds it, by their replies
abbrev pub held_name : Option ℕ → List Line → Bool
held_name None j = false
held_name (Some t) j = holds by_number (map line_of j) t

abbrev pub built_name : Option ℕ → List Line → Bool
built_name None j = false
built_name (Some t) j = builds by_number (map line_of j) t

-- what a session with these lines does next
abbrev pub next : PlanOf → ℕ → List Line → Option (Numbered ℕ)
next p s j = next_of (naming_of p) (script_of p s) j

-- whether a session with these lines holds the command's target, and builds it
abbrev pub own : List Line → Command ℕ → Bool
own j x = held_name (target_of x) j

abbrev pub own_build : List Line → Command ℕ → Bool
own_build j x = built_name (target_of x) j

-- the word that the command steps on, by the session's own lines
abbrev pub own_way : List Line → Command ℕ → Way
own_way j x = way x (own j x) (own_build j x)
