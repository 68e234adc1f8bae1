use Rattle.std.proofs.Common.{◌≡◌, ◌++◌, List, ℕ, take}
use Rattle.redodb_records.specs.Rows.{with_rows}
use Rattle.redodb_records.proofs.Walked.{slot_names}
use Rattle.redodb_memo.specs.NameSet.{size_of}
use Rattle.redodb_database.specs.Support.Search.{IsSearch}
use Rattle.redodb_database.proofs.Searching.{StepsPartly}
use Rattle.redodb_database.proofs.why.find_needs.Given as goal

abbrev pub invariant-loop-slot : goal.invariant-loop-slot
invariant-loop-slot l =
    let r = with_rows l.records l.rows in
    let names = take l.slot-index (slot_names l.slot-items) in
    record {
      sized : size_of l.seen ≡ size_of l.fn.seen;
      behind : (ns : List ℕ) × (l.seen.queue ≡ l.fn.seen.queue ++ ns);
      search : IsSearch r (StepsPartly r l.out l.fn.seen.queue l.from l.t names) l.from l.seen
          l.parents.items;
    }
