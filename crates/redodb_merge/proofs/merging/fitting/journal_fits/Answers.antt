use Rattle.std.proofs.Common.{refl, ℕ, map, slice_index_or}
use Rattle.std.proofs.lemmas.Bool.{false≢true}
use Rattle.redodb_commands.specs.Support.Meaning.{item_of}
use Rattle.redodb_merge.specs.Support.Merging.{FitsScript, none}
use Rattle.redodb_merge.proofs.Unmerged.{next_below, fits_here, fits_there}
use Rattle.redodb_merge.proofs.merging.fitting.journal_fits.Goals as goal

pub returns-then-not-entry_fits : goal.returns-then-not-entry_fits
returns-then-not-entry_fits c =
    let script = map item_of c.args.script.now in
    let entries = c.args.entries.now in (
      c.fitting.k,
      (
        c.fitting-test.true,
        λ fits. false≢true (c.if-not-entry_fits.ensures.1 (fits_there script entries c.fitting.k
            c.index-entries-k.result c.fitting-test.true c.index-entries-k.is fits)),
      ),
    )

pub fitting-preserved : goal.fitting-preserved
fitting-preserved c =
    let script = map item_of c.args.script.now in
    let entries = c.args.entries.now in
    next_below (λ (k : ℕ). FitsScript script (slice_index_or entries k none))
    c.fitting.k c.fitting.invariant
    (fits_here script entries c.fitting.k c.index-entries-k.result c.fitting-test.true
    c.index-entries-k.is (c.if-not-entry_fits.ensures.0 refl))
