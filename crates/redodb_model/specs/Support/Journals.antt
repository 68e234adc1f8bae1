-- Lines that are the journals of a plan.
use Rattle.std.specs.Prelude.{ℕ, ◌≤◌, List, length}
use Rattle.redodb_model.specs.Names.{Naming}
use Rattle.redodb_model.specs.Command.{Item}
use Rattle.redodb_model.specs.Placed.{PlacedLine, part_of}
use Rattle.redodb_model.specs.Journals.{IsJournal}

module _ {N : Type 0} (naming : Naming N) (plan : ℕ → List (Item N)) where
  -- a plan has a script for each session, of at most 4,096 lines; the lines of each session are
  -- its journal
  pub record IsOfPlan (lines : List (PlacedLine N)) : Type 0 where
    pub journals : (s : ℕ) → IsJournal naming s (plan s) (part_of s lines)
    pub short : (s : ℕ) → length (plan s) ≤ 4096
