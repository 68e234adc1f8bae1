-- A graph that cells and rows fit has what a reply reads of it.
use Rattle.std.proofs.Common.{List, length, arith}
use Rattle.redodb_names.proofs.Ranked.{sorted_few}
use Rattle.redodb_graph.specs.Graphs.{GraphOf}
use Rattle.redodb_replica.specs.declared.rows.Row.{Row}
use Rattle.redodb_replica.specs.declared.cell.CompactCell.{CompactCell}
use Rattle.redodb_replica.specs.Support.Fits.{IsFit}
use Rattle.redodb_replica.specs.Support.Lists.{IsLaidOut}

pub laid_out : (graph : GraphOf) (cells : List CompactCell) (rows : List Row)
    → IsFit graph cells rows → IsLaidOut graph (length cells)
laid_out graph cells rows fit = record {
  order = fit.linked.order;
  ranks = fit.linked.ranks;
  names = fit.linked.names;
  few = omega (arith, sorted_few graph.sorted (length cells) fit.linked.order, fit.number);
  pairs_on = fit.linked.pairs_on;
}
