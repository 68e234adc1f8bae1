-- The tables have an entry for each number that cells, rows and steps have.
use Rattle.std.specs.Prelude.{◌≡◌, ◌<◌, ℕ, ⊤, List, Some, IfSome, length}
use Rattle.redodb_graph.specs.declared.step.Step.{Step}
use Rattle.redodb_graph.specs.declared.step.Step.TheVariants.{File, Stamp, Done}
use Rattle.redodb_graph.specs.Steps.{TablesOf}
use Rattle.redodb_replica.specs.declared.mark.Mark.{Mark}
use Rattle.redodb_replica.specs.declared.rows.Row.{Row}
use Rattle.redodb_replica.specs.declared.cell.CompactCell.{CompactCell}
use Rattle.redodb_replica.specs.CompactCells.{HasEntry, HasEntries, cell_at}
use Rattle.redodb_replica.specs.PairRows.{change_of, row_at}

-- one for the mark of the row
abbrev pub HasMark : TablesOf → Row → Type 0
HasMark tables row =
    (mark : Mark) → change_of row ≡ Some mark → HasEntry tables.stamps tables.digests mark

abbrev pub HaveMarks : TablesOf → List Row → Type 0
HaveMarks tables rows = (i : ℕ) → HasMark tables (row_at rows i)

abbrev pub HaveEntries : TablesOf → List CompactCell → Type 0
HaveEntries tables cells = (n : ℕ) → HasEntries tables.stamps tables.digests (cell_at cells n)

-- one for the stamp or the digest of the step
abbrev pub HasNumber : TablesOf → Step → Type 0
HasNumber tables (File n i) = i < length tables.stamps
HasNumber tables (Stamp t i) = i < length tables.digests
HasNumber tables (Done t stamp) = IfSome stamp (λ i. i < length tables.stamps)
HasNumber tables step = ⊤
