use Rattle.std.proofs.Common.{ℕ, ◌<◌, ◌≤◌, length, slice_index}
use Rattle.redodb_journal.specs.Journals.{entries_of}
use Rattle.redodb_merge.proofs.merging.is_done.Given as goal

abbrev pub invariant-looking : goal.invariant-looking
invariant-looking l = (u : ℕ) → u < l.s → length (entries_of l.journals u) ≤ slice_index l.next u
