use Rattle.std.proofs.Common.{◌≡◌, ◌∙◌, ◌<◌, ℕ, length, arith, sym, ap, subst}
use Rattle.std.proofs.lemmas.Bool.Decides.{nat_tests}
use Rattle.redodb_model.specs.Names.{text_at}
use Rattle.redodb_records.specs.Rows.{rows_of}
use Rattle.redodb_dump.specs.Support.Read.{AreRowsUpTo, joined}
use Rattle.redodb_dump.proofs.Failing.{err_then}
use Rattle.redodb_dump.proofs.NextRows.{next_row, no_next_row, words_from}
use Rattle.redodb_dump.proofs.ReadRows.{rows_until, same_twice}
use Rattle.redodb_dump.proofs.SameParts.{cells_kept, same_after}
use Rattle.redodb_dump.proofs.reading_rows.put_rows.Goals as goal

pub returns-in_err-least-clause-only : goal.returns-in_err-least-clause-only
returns-in_err-least-clause-only c = λ names st is long cells none whole.
    let before = c.words.invariant.read names st is long cells none whole in
    let t = text_at names c.args.t in
    let some : 0 < length c.words.left.now = grind (arith, nat_tests) in
    let found =
    next_row names st is t c.words.least c.words.left.now c.cut_at_space.result.0.now
    c.cut_at_space.result.1.now before.0 before.1 some c.cut_at_space.ensures in
    let next = found.1 in
    let same = c.words.invariant.same in
    let counted = long ∙ sym (ap length same.cells) in
    let kept = cells_kept names st (length names) same cells in
    let are =
    rows_until names st (rows_of c.words.loading.rows) c.args.t c.words.least found.0 before.2
    next.from next.none in
    err_then c.from_residual-in_err-least.result c.in_err-least.field-0.0 _ _
    c.from_residual-in_err-least.ensures.1
    (c.in_err-least.ensures.only names st found.0 is counted kept next.from next.below are next.row)

pub words-preserved : goal.words-preserved
words-preserved c = record {
  same = same_after c.words.invariant.same c.put_row.ensures.same;
  read = λ names st is long cells none whole.
      let before = c.words.invariant.read names st is long cells none whole in
      let t = text_at names c.args.t in
      let some : 0 < length c.words.left.now = grind (arith, nat_tests) in
      let found =
      next_row names st is t c.words.least c.words.left.now c.cut_at_space.result.0.now
      c.cut_at_space.result.1.now before.0 before.1 some c.cut_at_space.ensures in
      let next = found.1 in
      let same = c.words.invariant.same in
      let counted = long ∙ sym (ap length same.cells) in
      let kept = cells_kept names st (length names) same cells in
      let are =
      rows_until names st (rows_of c.words.loading.rows) c.args.t c.words.least found.0 before.2
      next.from next.none in
      let put =
      c.in_ok-least.ensures.only names st found.0 is counted kept next.from next.below are
      next.row in
      let after = put.0 in (
        omega (arith, after, next.below),
        next.rest_is ∙ ap (λ m. joined (words_from names st is t m)) (sym after),
        subst (λ (m : ℕ). AreRowsUpTo names st (rows_of c.put_row.new.loading.rows) c.args.t m)
            (sym after) put.1,
        same_twice before.3 put.2,
      );
}

pub returns-clause-only : goal.returns-clause-only
returns-clause-only c = λ names st is long cells none whole.
    let before = c.words.invariant.read names st is long cells none whole in
    let t = text_at names c.args.t in
    let nothing : length c.words.left.now ≡ 0 = grind (arith, nat_tests) in (
      rows_until names st (rows_of c.words.loading.rows) c.args.t c.words.least (length names)
          before.2 before.0
          (no_next_row names st is t c.words.least c.words.left.now before.0 before.1 nothing),
      before.3,
    )
