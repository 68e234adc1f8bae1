-- The result of merging journals.
use Rattle.std.specs.Prelude.{◌≡◌, ℕ, List, map}
use Rattle.std.specs.Ordering.{nat_cmp}
use Rattle.redodb_model.specs.Names.{Naming, numbers}
use Rattle.redodb_model.specs.History.{Line}
use Rattle.redodb_model.specs.Placed.{PlacedLine, line_of}
use Rattle.redodb_model.specs.Journals.{IsFirstJointOrder}
use Rattle.redodb_journal.specs.Plans.{PlanOf}
use Rattle.redodb_journal.specs.Journals.{journals_of}
use Rattle.redodb_journal.specs.declared.entry.Journal.{Journal}

-- joint orders only test whether two numbers are the same
abbrev pub by_number : Naming ℕ
by_number = numbers nat_cmp

-- the history is that of the journals' first joint order
abbrev pub AreMerged : PlanOf → List Journal → List (Line ℕ) → Type 0
AreMerged plan journals history =
    (lines : List (PlacedLine ℕ)) × IsFirstJointOrder by_number (journals_of plan journals) lines
    × (history ≡ map line_of lines)
