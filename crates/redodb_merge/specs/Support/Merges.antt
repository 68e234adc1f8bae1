-- Journals that no joint order has.
use Rattle.std.specs.Prelude.{ℕ, List}
use Rattle.redodb_model.specs.Placed.{PlacedLine}
use Rattle.redodb_model.specs.Journals.{IsJointOrder}
use Rattle.redodb_journal.specs.Plans.{PlanOf}
use Rattle.redodb_journal.specs.Journals.{journals_of}
use Rattle.redodb_journal.specs.declared.entry.Journal.{Journal}
use Rattle.redodb_merge.specs.Merges.{by_number}

-- the journals have no joint order
abbrev pub HaveNoOrder : PlanOf → List Journal → Type 0
HaveNoOrder plan journals =
    (lines : List (PlacedLine ℕ)) → IsJointOrder by_number (journals_of plan journals) lines → ⊥
