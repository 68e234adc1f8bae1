-- How a step changes cells and rows.
use Rattle.std.specs.Prelude.{◌≡◌, ℕ, ◌+◌, ◌<◌, ◌≤◌, Bool, false, ⊤, List, Some, length, slice_get, slice_index, slice_range}
use Rattle.redodb_model.specs.Command.{Command}
use Rattle.redodb_model.specs.Renaming.{AllBelow}
use Rattle.redodb_model.specs.Step.{effect_of}
use Rattle.redodb_model.specs.Names.{put}
use Rattle.redodb_records.specs.Rows.{by_number, without_rows}
use Rattle.redodb_graph.specs.declared.step.Listed.{Listed}
use Rattle.redodb_graph.specs.declared.step.Step.{Step}
use Rattle.redodb_graph.specs.declared.step.Step.TheVariants.{File, Gone, Lock, Unlock, Start, IfChange, IfCreate, Always, Stamp, Done, Failed, Ood, Targets, Sources}
use Rattle.redodb_graph.specs.Steps.{TablesOf, Means}
use Rattle.redodb_replica.specs.declared.rows.Row.{Row}
use Rattle.redodb_replica.specs.declared.cell.CompactCell.{CompactCell}
use Rattle.redodb_replica.specs.CompactCells.{cell_at}
use Rattle.redodb_replica.specs.PairRows.{rows_of}
use Rattle.redodb_replica.specs.Replicas.{records_in}
use Rattle.redodb_replica.specs.Support.Entries.{HaveMarks}

-- the places are those of the pairs of t on these names, in order
pub record ArePlacesOf (pairs : List (ℕ × ℕ)) (t : ℕ) (names places : List ℕ) : Type 0 where
  pub count : length places ≡ length names
  pub each : (k : ℕ) → k < length names
      → slice_get pairs (slice_index places k) ≡ Some (t, slice_index names k)

-- they are those of the pairs of some target on names below the count
abbrev pub HavePlaces : List (ℕ × ℕ) → ℕ → List ℕ → Type 0
HavePlaces pairs count places =
    (t : ℕ) × (names : List ℕ) × ArePlacesOf pairs t names places × AllBelow count names

-- the places that the list takes from the table
abbrev pub places_in : TablesOf → Listed → List ℕ
places_in tables list = slice_range tables.listed list.from (list.from + list.len)

-- the table has places of pairs for the list
pub record IsListReady (tables : TablesOf) (count : ℕ) (list : Listed) : Type 0 where
  pub within : list.from + list.len ≤ length tables.listed
  pub places : HavePlaces tables.pairs.items count (places_in tables list)

-- the numbers of the step's names are below the count
abbrev pub IsReady : TablesOf → ℕ → Step → Type 0
IsReady tables count (File n i) = n < count
IsReady tables count (Gone n) = n < count
IsReady tables count (Lock t) = t < count
IsReady tables count (Unlock t) = t < count
IsReady tables count (Start t) = t < count
IsReady tables count (IfChange t list) = (t < count) × IsListReady tables count list
IsReady tables count (IfCreate t list) = (t < count) × IsListReady tables count list
IsReady tables count (Always t) = t < count
IsReady tables count (Stamp t i) = t < count
IsReady tables count (Done t i) = t < count
IsReady tables count (Failed t) = t < count
IsReady tables count Ood = ⊤
IsReady tables count Targets = ⊤
IsReady tables count Sources = ⊤

-- cells and rows, and a place in the tables for each of them
pub record AreSized (tables : TablesOf) (cells : List CompactCell) (rows : List Row) : Type 0 where
  pub names : length cells ≡ tables.pairs.count
  pub pairs : length rows ≡ length tables.pairs.items

-- no name was built more often
pub record AreBuilt (count : ℕ) (cells : List CompactCell) : Type 0 where
  pub each : (n : ℕ) → (cell_at cells n).builds ≤ count

-- whatever command the step stands for, the new records are its effect on the old ones
abbrev pub HasEffect : TablesOf → List CompactCell → List Row
    → List CompactCell → List Row → ℕ → Step → Type 0
HasEffect tables cells rows new_cells new_rows s step = (x : Command ℕ) → Means tables step x
    → records_in tables new_cells new_rows ≡ effect_of by_number (records_in tables cells rows) s x

-- the same of a command
abbrev pub AreRowsAfter : TablesOf → List CompactCell → List Row → List Row → Command ℕ → Type 0
AreRowsAfter tables cells old new x = (s : ℕ) → records_in tables cells new
    ≡ effect_of by_number (records_in tables cells old) s x

-- the rows of t are gone, and the others stay
pub record IsWithout (tables : TablesOf) (t : ℕ) (old new : List Row) : Type 0 where
  pub sized : length new ≡ length old
  pub rows : (always : ℕ → Bool)
      → rows_of tables.stamps tables.digests tables.pairs.items new (put by_number t false always)
      ≡ without_rows (rows_of tables.stamps tables.digests tables.pairs.items old always) t
  pub marks : HaveMarks tables old → HaveMarks tables new
