-- Which names a reply lists, by cells and marks.
use Rattle.std.specs.Prelude.{◌≡◌, ◌≢◌, ◌⊎◌, ◌↔◌, ◌<◌, ◌^◌, ℕ, Bool, List, IsNone, IsSome, IsTrue, Contains, is_some, length, map, slice_index_or}
use Rattle.redodb_model.specs.State.{Idle}
use Rattle.redodb_memo.specs.Bits.{IsSet}
use Rattle.redodb_names.specs.Orders.{AreRanks}
use Rattle.redodb_names.specs.Support.Orders.{IsOrderOf}
use Rattle.redodb_graph.specs.Graphs.{GraphOf, IsOn}
use Rattle.redodb_replica.specs.declared.cell.CompactCell.{CompactCell}
use Rattle.redodb_replica.specs.declared.rows.Row.{Row}
use Rattle.redodb_replica.specs.CompactCells.{cell_at, compact_state_of}
use Rattle.redodb_replica.specs.PairRows.{change_of, row_at}

-- the graph has the order of the names below the count, and the pairs on each of them
pub record IsLaidOut (graph : GraphOf) (count : ℕ) : Type 0 where
  pub order : IsOrderOf count graph.sorted
  pub ranks : AreRanks graph.sorted graph.ranks
  pub names : graph.on.count ≡ count
  pub few : length graph.sorted < 2 ^ 32
  pub pairs_on : (n i : ℕ) → Contains graph.on.items (n, i) ↔ IsOn graph.tables.pairs.items i n

-- the names of the pairs at these places
abbrev pub names_on : List (ℕ × ℕ) → List ℕ → List ℕ
names_on pairs places = map (λ i. (slice_index_or pairs i (0, 0)).1) places

abbrev pub HasFileIn : List CompactCell → ℕ → Type 0
HasFileIn cells n = IsTrue (is_some (cell_at cells n).file)

abbrev pub IsIdleIn : List CompactCell → ℕ → Type 0
IsIdleIn cells n = compact_state_of (cell_at cells n).state ≡ Idle

abbrev pub IsTargetIn : List CompactCell → ℕ → Type 0
IsTargetIn cells n = compact_state_of (cell_at cells n).state ≢ Idle

-- it is marked, or idle without a file
abbrev pub IsStaleIn : List CompactCell → List Bool → ℕ → Type 0
IsStaleIn cells out n = IsSet out n ⊎ (IsIdleIn cells n × IsNone (cell_at cells n).file)

-- there is a change row or a created row at this place
abbrev pub HasRowAt : List Row → ℕ → Type 0
HasRowAt rows i = IsSome (change_of (row_at rows i)) ⊎ IsTrue (row_at rows i).created
