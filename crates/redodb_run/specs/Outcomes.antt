-- The result of a run.
use Rattle.std.specs.Prelude.{◌≡◌, ℕ, List, ◌∷◌, ◌++◌, length, Some, All, slice_get}
use Rattle.redodb_model.specs.Placed.{Place, PlacedLine, part_of}
use Rattle.redodb_model.specs.Journals.{IsWholeJournal, IsJointOrder}
use Rattle.redodb_model.specs.Seen.{HasSeen, StandsIn}
use Rattle.redodb_journal.specs.Plans.{PlanOf, script_of}
use Rattle.redodb_journal.specs.Journals.{told_by, journals_of, naming_of, IsMarked}
use Rattle.redodb_journal.specs.declared.entry.Journal.{Journal}
use Rattle.redodb_board.specs.Shown.{rows_up_to}
use Rattle.redodb_merge.specs.Merges.{by_number}

-- all that the session does, with its closing commands marked, and how many rows it tried: those up
-- to its own latest
pub record IsWholeOf (p : PlanOf) (s : ℕ) (journal : Journal) : Type 0 where
  pub session : journal.session ≡ s
  pub whole : IsWholeJournal (naming_of p) s (script_of p s) (told_by (script_of p s) journal)
  pub marked : All (IsMarked (script_of p s)) journal.entries.items
  pub tries : journal.tries ≡ rows_up_to 0 (told_by (script_of p s) journal)

-- one journal for each session, in order, each of all that it does
pub record AreWhole (p : PlanOf) (journals : List Journal) : Type 0 where
  pub one_each : length journals ≡ length p.scripts
  pub each : (s : ℕ) (journal : Journal) → slice_get journals s ≡ Some journal
      → IsWholeOf p s journal

-- in each joint order of the journals, what a session had seen at a line comes before that line
abbrev pub SeenStands : PlanOf → List Journal → Type 0
SeenStands p journals =
    (before later : List (PlacedLine ℕ)) (line : PlacedLine ℕ) (place : Place ℕ)
    → IsJointOrder by_number (journals_of p journals) (before ++ line ∷ later)
    → HasSeen (part_of line.session before) place → StandsIn before place
