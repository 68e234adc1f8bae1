-- A memo of what is out of date, and the seeds that were noted since it was right.
use Rattle.std.specs.Prelude.{◌≡◌, ℕ, Bool, List, length}
use Rattle.redodb_memo.specs.Memo.{WasRight, memo_count}
use Rattle.redodb_graph.specs.Steps.{TablesOf}
use Rattle.redodb_replica.specs.declared.rows.Row.{Row}
use Rattle.redodb_replica.specs.declared.cell.CompactCell.{CompactCell}
use Rattle.redodb_replica.specs.Replicas.{records_in}

-- whether it has each name as out of date, and the seeds
pub record MemoOf : Type 0 where
  pub out : List Bool
  pub seeds : List ℕ

-- it has each name, and was right before the cells and rows changed at the seeds
pub record IsMemoOf (tables : TablesOf) (cells : List CompactCell) (rows : List Row)
    (memo : MemoOf) : Type 0 where
  pub sized : memo_count memo.out ≡ length cells
  pub right : WasRight memo.seeds memo.out (records_in tables cells rows)
