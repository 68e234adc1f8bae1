use Rattle.std.proofs.Common.{arith, ap, sym, ◌∙◌}
use Rattle.redodb_journal.specs.declared.entry.Journal.{Journal}
use Rattle.redodb_journal.specs.Journals.{entries_of}
use Rattle.redodb_merge.specs.Support.Merging.{busy_in}
use Rattle.redodb_merge.proofs.Unmerged.{entries_at}
use Rattle.redodb_merge.proofs.BusyCounts.{busy_below-more, busy_below-le}
use Rattle.redodb_merge.proofs.merging.counts.busy_answers.Goals as goal

pub add_all-requires : goal.add_all-requires
add_all-requires c t g =
    let js = c.args.journals.now in
    let here =
    ap (busy_in t g)
    (entries_at js c.counting.journal-index c.journal-item.result c.counting-test.true
    ∙ ap (λ (j : Journal). j.entries.items) (sym c.journal-item.is)
    ∙ sym c.deref.ensures.value) in
    let a = c.requires.short t g c.counting.journal-index in
    let b = busy_below-le t g (entries_of js) c.counting.journal-index (c.requires.short t g) in
    omega (arith, c.counting.invariant t g, c.requires.few)

pub counting-preserved : goal.counting-preserved
counting-preserved c t g =
    let js = c.args.journals.now in
    let here =
    ap (busy_in t g)
    (entries_at js c.counting.journal-index c.journal-item.result c.counting-test.true
    ∙ ap (λ (j : Journal). j.entries.items) (sym c.journal-item.is)
    ∙ sym c.deref.ensures.value) in
    let b = busy_below-more t g (entries_of js) c.counting.journal-index in
    omega (arith, c.counting.invariant t g, c.in_ok-add_all.ensures t g)
