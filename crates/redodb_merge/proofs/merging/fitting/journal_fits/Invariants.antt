use Rattle.std.proofs.Common.{ℕ, ◌<◌, map, slice_index_or}
use Rattle.redodb_commands.specs.Support.Meaning.{item_of}
use Rattle.redodb_merge.specs.Support.Merging.{FitsScript, none}
use Rattle.redodb_merge.proofs.merging.fitting.journal_fits.Given as goal

abbrev pub invariant-fitting : goal.invariant-fitting
invariant-fitting l =
    (k : ℕ) → k < l.k → FitsScript (map item_of l.script) (slice_index_or l.entries k none)
