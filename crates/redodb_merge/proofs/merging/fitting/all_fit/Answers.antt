use Rattle.std.proofs.Common.{arith, ℕ, ◌≡◌, [], ap, sym, ◌∙◌, inl, inr, length, map, get_or, slice_index_or}
use Rattle.std.proofs.lemmas.Bool.{cases_lt}
use Rattle.redodb_commands.specs.Support.Meaning.{item_of}
use Rattle.redodb_journal.specs.Plans.{scripts_of}
use Rattle.redodb_journal.specs.Journals.{entries_of}
use Rattle.redodb_merge.specs.Support.Merging.{FitsAt}
use Rattle.redodb_merge.proofs.Unmerged.{next_below, entries_at, entries_past, script_at, fits_back, misfit_back}
use Rattle.redodb_merge.proofs.merging.fitting.all_fit.Goals as goal

pub returns-then-not-journal_fits : goal.returns-then-not-journal_fits
returns-then-not-journal_fits c =
    let js = c.args.journals.now in
    let s = c.checking.s in
    let here : entries_of js s ≡ c.deref.result.now =
    entries_at js s c.index-journals-s.result c.checking-test.true ∙ sym c.deref.ensures.value in
    let script : get_or (scripts_of c.args.scripts.now) s []
    ≡ map item_of c.index-scripts-s.result =
    script_at c.args.scripts.now s c.index-scripts-s.result
    (let a = c.requires.sized in let b = c.checking-test.true in omega arith)
    ∙ ap (map item_of) (sym c.index-scripts-s.is) in
    let bad = c.if-not-journal_fits.ensures in (
      s,
      bad.0,
      misfit_back c.args.scripts.now js s c.deref.result.now c.index-scripts-s.result here script
          bad.0 bad.1,
    )

pub checking-preserved : goal.checking-preserved
checking-preserved c =
    let js = c.args.journals.now in
    let s = c.checking.s in
    let here : entries_of js s ≡ c.deref.result.now =
    entries_at js s c.index-journals-s.result c.checking-test.true ∙ sym c.deref.ensures.value in
    let script : get_or (scripts_of c.args.scripts.now) s []
    ≡ map item_of c.index-scripts-s.result =
    script_at c.args.scripts.now s c.index-scripts-s.result
    (let a = c.requires.sized in let b = c.checking-test.true in omega arith)
    ∙ ap (map item_of) (sym c.index-scripts-s.is) in
    next_below
    (λ (u : ℕ). (k : ℕ)
    → FitsAt (slice_index_or (scripts_of c.args.scripts.now) u []) (entries_of js u) k)
    s c.checking.invariant
    (fits_back c.args.scripts.now js s c.deref.result.now c.index-scripts-s.result here script
    c.if-not-journal_fits.ensures)

pub returns : goal.returns
returns c s k more =
    let js = c.args.journals.now in
    elim (cases_lt s (length js)) [
      | inl within ↦ c.checking.invariant s (omega arith) k more
      | inr past ↦
          let none_there = ap length (entries_past js s (omega arith)) in
          absurd (omega arith)
    ]
