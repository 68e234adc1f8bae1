use Rattle.std.proofs.Common.{arith, ℕ, ◌≤◌, ap, length, slice_index}
use Rattle.redodb_journal.specs.Journals.{entries_of}
use Rattle.redodb_merge.proofs.Unmerged.{entries_at, next_below}
use Rattle.redodb_merge.proofs.merging.is_done.Goals as goal

pub returns-then-next-s : goal.returns-then-next-s
returns-then-next-s c =
    let here =
    ap length
    (entries_at c.args.journals.now c.looking.s c.index-journals-s.result
    c.looking-test.true) in
    let a = c.if-next-s.true in let b = ap length c.deref-entries.ensures.value in
    (c.looking.s, c.looking-test.true, (omega arith))

pub looking-preserved : goal.looking-preserved
looking-preserved c =
    let here =
    ap length
    (entries_at c.args.journals.now c.looking.s c.index-journals-s.result
    c.looking-test.true) in
    let a = c.if-next-s.false in let b = ap length c.deref-entries.ensures.value in
    next_below
    (λ (u : ℕ). length (entries_of c.args.journals.now u) ≤ slice_index c.args.next.now u)
    c.looking.s c.looking.invariant (omega arith)
