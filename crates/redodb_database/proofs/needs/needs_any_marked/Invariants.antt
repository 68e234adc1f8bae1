use Rattle.std.proofs.Common.{ℕ, ◌<◌, IsSome, slice_index_or}
use Rattle.redodb_records.specs.Rows.{Slot}
use Rattle.redodb_memo.specs.NameSet.{IsMarked}
use Rattle.redodb_database.proofs.needs.needs_any_marked.Given as goal

abbrev pub invariant-loop-slot : goal.invariant-loop-slot
invariant-loop-slot l =
    (k : ℕ) (d : Slot) → k < l.slot-index
    → (IsSome (slice_index_or l.slot-items k d).change
    × IsMarked l.marks (slice_index_or l.slot-items k d).name) → ⊥
