-- A graph with the cells of its names and the rows of its pairs.
use Rattle.std.specs.Prelude.{◌≡◌, ◌↔◌, ◌<◌, ◌^◌, ℕ, List, Contains, length}
use Rattle.redodb_names.specs.Orders.{AreRanks}
use Rattle.redodb_names.specs.Support.Orders.{IsOrderOf}
use Rattle.redodb_graph.specs.Graphs.{GraphOf, AreNumbers, IsOn, IsOnce}
use Rattle.redodb_graph.specs.Pairs.{AreAscending}
use Rattle.redodb_replica.specs.declared.rows.Row.{Row}
use Rattle.redodb_replica.specs.declared.cell.CompactCell.{CompactCell}
use Rattle.redodb_replica.specs.Support.Changes.{AreSized}
use Rattle.redodb_replica.specs.Support.Entries.{HaveEntries, HaveMarks}

-- what a graph with this count of names has: their order; pairs of numbers below the count, each
-- once, and in `on` the places of those on each name; equal stamps have one number, and equal digests
pub record IsLinked (count : ℕ) (graph : GraphOf) : Type 0 where
  pub order : IsOrderOf count graph.sorted
  pub ranks : AreRanks graph.sorted graph.ranks
  pub below : (p : ℕ × ℕ) → Contains graph.tables.pairs.items p → AreNumbers count p
  pub one_pair : AreAscending graph.tables.pairs.items
  pub pairs_on : (n i : ℕ) → Contains graph.on.items (n, i) ↔ IsOn graph.tables.pairs.items i n
  pub one_stamp : IsOnce graph.tables.stamps
  pub one_digest : IsOnce graph.tables.digests
  pub targets : graph.tables.pairs.count ≡ count
  pub names : graph.on.count ≡ count

-- one cell for each name and rows for each pair of the graph, with numbers that its tables have
pub record IsFit (graph : GraphOf) (cells : List CompactCell) (rows : List Row) : Type 0 where
  pub sized : AreSized graph.tables cells rows
  pub number : length cells < 2 ^ 32
  pub linked : IsLinked (length cells) graph
  pub entries : HaveEntries graph.tables cells
  pub marks : HaveMarks graph.tables rows

-- what a walk reads: the graph, the cells of its names and the rows of its pairs
pub record DatabaseOf : Type 0 where
  pub graph : GraphOf
  pub cells : List CompactCell
  pub rows : List Row
