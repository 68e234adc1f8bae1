-- What the rows of a target on a name say of it.
use Rattle.std.specs.Prelude.{◌≡◌, ◌≢◌, ◌⊎◌, ℕ, List, Some, IsSome, IsTrue, option_map}
use Rattle.redodb_model.specs.State as states
use Rattle.redodb_model.specs.State.{mark_in}
use Rattle.redodb_memo.specs.NameSet.{Marked, IsMarked}
use Rattle.redodb_graph.specs.Steps.{TablesOf}
use Rattle.redodb_replica.specs.declared.rows.Row.{Row}
use Rattle.redodb_replica.specs.declared.cell.CompactCell.{CompactCell}
use Rattle.redodb_replica.specs.CompactCells.{cell_of, mark_for, cell_at, compact_state_of}
use Rattle.redodb_replica.specs.PairRows.{change_of, pair_place, row_at}

-- there is a created row, and the name has a file
abbrev pub HasAppeared : TablesOf → Row → CompactCell → Type 0
HasAppeared tables row cell =
    IsTrue row.created × IsSome (cell_of tables.stamps tables.digests cell).file

-- there is a change row with another mark than the name has now
abbrev pub HasChanged : TablesOf → Row → CompactCell → Type 0
HasChanged tables row cell = (mark : states.Mark)
    × (option_map (mark_for tables.stamps tables.digests) (change_of row) ≡ Some mark)
    × (mark ≢ mark_in (compact_state_of cell.state) (cell_of tables.stamps tables.digests cell))

-- the rows on the name are a reason to build their target again
abbrev pub IsNews : TablesOf → Row → CompactCell → Type 0
IsNews tables row cell = HasAppeared tables row cell ⊎ HasChanged tables row cell

-- they are, or there is a change row and the name is marked
abbrev pub IsDueRow : TablesOf → List CompactCell → Marked → Row → ℕ → Type 0
IsDueRow tables cells marks row n =
    IsNews tables row (cell_at cells n) ⊎ (IsSome (change_of row) × IsMarked marks n)

-- this is so of the rows of t on some name
abbrev pub HasDueRow : TablesOf → List CompactCell → List Row → Marked → ℕ → Type 0
HasDueRow tables cells rows marks t =
    (n : ℕ) × IsDueRow tables cells marks (row_at rows (pair_place tables.pairs.items t n)) n
