use Rattle.std.proofs.Common.{◌≡◌, ℕ, ◌+◌, take}
use Rattle.redodb_merge.specs.Support.Merging.{tally, busy_in}
use Rattle.redodb_merge.proofs.merging.counts.add_all.Given as goal

abbrev pub invariant-adding : goal.invariant-adding
invariant-adding l =
    (t g : ℕ)
    → tally l.counts t g
    ≡ tally l.initial.counts t g + busy_in t g (take l.entry-index l.entries)
