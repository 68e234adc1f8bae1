use Rattle.std.proofs.Common.{ℕ, ◌<◌, slice_index_or}
use Rattle.redodb_records.specs.Rows.{Slot}
use Rattle.redodb_records.specs.Support.News.{known, HasNews}
use Rattle.redodb_records.proofs.news.first_news.Given as goal

abbrev pub invariant-loop-slot : goal.invariant-loop-slot
invariant-loop-slot l =
    (k : ℕ) (d : Slot) → k < l.slot-index
    → HasNews (known l.records) (slice_index_or l.slots k d) (slice_index_or l.slots k d).name → ⊥
