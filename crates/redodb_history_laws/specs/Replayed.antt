-- The records that the commands of the row words leave.
use Rattle.std.specs.Prelude.{◌≡◌, ℕ, ◌≤◌, List, [], ◌∷◌, map}
use Rattle.std.specs.List.{AllByRecursion}
use Rattle.redodb_model.specs.Names.{Naming}
use Rattle.redodb_model.specs.State.{Records, empty}
use Rattle.redodb_model.specs.Command.{Item}
use Rattle.redodb_model.specs.History.{Legal}
use Rattle.redodb_model.specs.Placed.{PlacedLine, line_of, IsPlaced}
use Rattle.redodb_model.specs.Renaming.{IsLineBelow}
use Rattle.redodb_model.specs.Support.Journals.{IsOfPlan}
use Rattle.redodb_history_laws.specs.RowWord.{decoded, after_row}

-- the records of the empty state
abbrev pub no_records : {N : Type 0} → Records N
no_records {N} = (empty {N = N}).records

module _ (naming : Naming ℕ) (plan : ℕ → List (Item ℕ)) where
  -- the records that the commands of the words leave
  abbrev pub replayed : Records ℕ → List ℕ → Records ℕ
  replayed records [] = records
  replayed records (word ∷ words) = replayed (after_row naming plan records (decoded word)) words

  -- a legal placed history of the plan, which has scripts for at most 64 sessions, over at most
  -- 65,536 names
  pub record IsLegalOfPlan (lines : List (PlacedLine ℕ)) : Type 0 where
    pub of_plan : IsOfPlan naming plan lines
    pub placed : IsPlaced naming lines
    pub legal : Legal naming (map line_of lines)
    pub few : (s : ℕ) → 64 ≤ s → plan s ≡ []
    pub below : AllByRecursion (IsLineBelow 65536) (map line_of lines)
