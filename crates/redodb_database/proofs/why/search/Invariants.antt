use Rattle.std.proofs.Common.{◌≡◌, ◌<◌, ◌≤◌, ◌-◌, length, get_or}
use Rattle.redodb_records.specs.Rows.{with_rows, rows_count}
use Rattle.redodb_memo.specs.NameSet.{size_of}
use Rattle.redodb_database.specs.Support.Search.{IsSearch, StepsBefore, HaveNoReason}
use Rattle.redodb_database.proofs.why.search.Given as goal

abbrev pub invariant-names : goal.invariant-names
invariant-names l =
    let r = with_rows l.records l.rows in record {
      sized : size_of l.seen ≡ rows_count l.rows;
      first : l.t ≡ get_or l.seen.queue 0 0;
      done : l.next ≤ l.tested;
      tested : l.tested ≤ length l.seen.queue;
      some : 0 < length l.seen.queue;
      search : IsSearch r (StepsBefore r l.out l.seen.queue l.next) l.next l.seen l.parents.items;
      none : HaveNoReason r l.seen.queue 0 l.tested;
    }

abbrev pub decreases-names : goal.decreases-names
decreases-names l = size_of l.seen - l.next
