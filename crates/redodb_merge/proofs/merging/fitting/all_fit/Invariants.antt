use Rattle.std.proofs.Common.{ℕ, ◌<◌, [], slice_index_or}
use Rattle.redodb_journal.specs.Plans.{scripts_of}
use Rattle.redodb_journal.specs.Journals.{entries_of}
use Rattle.redodb_merge.specs.Support.Merging.{FitsAt}
use Rattle.redodb_merge.proofs.merging.fitting.all_fit.Given as goal

abbrev pub invariant-checking : goal.invariant-checking
invariant-checking l =
    (s : ℕ) → s < l.s → (k : ℕ)
    → FitsAt (slice_index_or (scripts_of l.scripts) s []) (entries_of l.journals s) k
