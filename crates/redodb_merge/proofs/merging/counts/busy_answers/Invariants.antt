use Rattle.std.proofs.Common.{◌≡◌, ℕ}
use Rattle.redodb_journal.specs.Journals.{entries_of}
use Rattle.redodb_merge.specs.Support.Merging.{tally, busy_below}
use Rattle.redodb_merge.proofs.merging.counts.busy_answers.Given as goal

abbrev pub invariant-counting : goal.invariant-counting
invariant-counting l =
    (t g : ℕ) → tally l.counts t g ≡ busy_below t g (entries_of l.journals) l.journal-index
