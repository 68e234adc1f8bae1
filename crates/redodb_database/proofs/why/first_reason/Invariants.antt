use Rattle.std.proofs.Common.{◌≤◌}
use Rattle.redodb_records.specs.Rows.{with_rows}
use Rattle.redodb_database.specs.Support.Search.{HaveNoReason}
use Rattle.redodb_database.proofs.why.first_reason.Given as goal

abbrev pub invariant-loop-place : goal.invariant-loop-place
invariant-loop-place l = record {
  past : l.from ≤ l.place;
  none : HaveNoReason (with_rows l.records l.rows) l.seen.queue l.from l.place;
}
