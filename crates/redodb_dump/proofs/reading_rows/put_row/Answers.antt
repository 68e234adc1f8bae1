use Rattle.std.proofs.Common.{◌≡◌, ◌∙◌, ◌<◌, ◌^◌, ◌+◌, ℕ, arith, refl, sym, ap, subst}
use Rattle.std.specs.Prelude.{decimal}
use Rattle.std.proofs.lemmas.Fmt.{decimal_is_IsNumeral_wide}
use Rattle.redodb_model.specs.Names.{text_at}
use Rattle.redodb_model.specs.State.{Cell, Rows, mark_in, mark_of}
use Rattle.redodb_records.specs.Cells.{cell_at}
use Rattle.redodb_records.specs.Rows.{rows_of}
use Rattle.redodb_dump.specs.Dumps.{change_word}
use Rattle.redodb_dump.specs.Support.Read.{AreRowsUpTo, AreSameButOf, with_mark, with_sign}
use Rattle.redodb_dump.proofs.DumpMarks.{change_has_no_digit}
use Rattle.redodb_dump.proofs.Failing.{err_then}
use Rattle.redodb_dump.proofs.ReadCells.{is_none}
use Rattle.redodb_dump.proofs.ReadRows.{others_kept, plus_found, row_is, row_put, with_both}
use Rattle.redodb_dump.proofs.reading_rows.put_row.Goals as goal

pub returns-in_default-clause-only : goal.returns-in_default-clause-only
returns-in_default-clause-only c = λ names st n is long cells least below are row.
    let t = text_at names c.args.t in
    let name = text_at names n in
    let now = mark_of st.records name in
    let change = st.records.rows.change t name in
    let created = st.records.rows.created t name in
    let few = is.few in
    let small : n < 10 ^ 64 = omega (arith, few, below) in
    let word = row_is n now change created c.args.word.now row in
    let plus =
    plus_found created n (change_word now change) c.args.word.now small word
    c.cut_plus-is_created.result.0 c.cut_plus-is_created.result.1.now
    c.cut_plus-is_created.ensures.plus c.cut_plus-is_created.ensures.none in
    let digits =
    c.cut_digits.ensures (decimal n) (change_word now change)
    (decimal_is_IsNumeral_wide n small).0.1 (change_has_no_digit now change) plus.1 in
    let within : n < c.count.result = omega (arith, c.count.ensures, long, below) in
    is_none (c.in_default.ensures.only n digits.0 least within)

pub returns-in_err-put_change-clause-only : goal.returns-in_err-put_change-clause-only
returns-in_err-put_change-clause-only c = λ names st n is long cells least below are row.
    let t = text_at names c.args.t in
    let name = text_at names n in
    let now = mark_of st.records name in
    let change = st.records.rows.change t name in
    let created = st.records.rows.created t name in
    let few = is.few in
    let small : n < 10 ^ 64 = omega (arith, few, below) in
    let word = row_is n now change created c.args.word.now row in
    let plus =
    plus_found created n (change_word now change) c.args.word.now small word
    c.cut_plus-is_created.result.0 c.cut_plus-is_created.result.1.now
    c.cut_plus-is_created.ensures.plus c.cut_plus-is_created.ensures.none in
    let digits =
    c.cut_digits.ensures (decimal n) (change_word now change)
    (decimal_is_IsNumeral_wide n small).0.1 (change_has_no_digit now change) plus.1 in
    let within : n < c.count.result = omega (arith, c.count.ensures, long, below) in
    let found = c.in-Some.ensures.only n digits.0 least within in
    let number : c.in-Some.n ≡ n = cc in
    let same = c.put_sign.ensures.same.cells in
    let cell : cell_at c.put_sign.new.loading.cells c.in-Some.n ≡ st.records.cell name =
    (λ i. cell_at (same i) (number i)) ∙ cells.cells n below in
    let marked : c.cut_digits.result.1.now
    ≡ change_word (mark_in (cell_at c.put_sign.new.loading.cells c.in-Some.n).state
    (cell_at c.put_sign.new.loading.cells c.in-Some.n)) change =
    digits.1 ∙ ap (λ (own : Cell). change_word (mark_in own.state own) change) (sym cell) in
    let form = is.over.marks t name in
    err_then c.from_residual-in_err-put_change.result c.in_err-put_change.field-0.0 _ _
    c.from_residual-in_err-put_change.ensures.1
    (c.in_err-put_change.ensures.only change form marked)

pub returns-clause-only : goal.returns-clause-only
returns-clause-only c = λ names st n is long cells least below are row.
    let t = text_at names c.args.t in
    let name = text_at names n in
    let now = mark_of st.records name in
    let change = st.records.rows.change t name in
    let created = st.records.rows.created t name in
    let few = is.few in
    let small : n < 10 ^ 64 = omega (arith, few, below) in
    let word = row_is n now change created c.args.word.now row in
    let plus =
    plus_found created n (change_word now change) c.args.word.now small word
    c.cut_plus-is_created.result.0 c.cut_plus-is_created.result.1.now
    c.cut_plus-is_created.ensures.plus c.cut_plus-is_created.ensures.none in
    let digits =
    c.cut_digits.ensures (decimal n) (change_word now change)
    (decimal_is_IsNumeral_wide n small).0.1 (change_has_no_digit now change) plus.1 in
    let within : n < c.count.result = omega (arith, c.count.ensures, long, below) in
    let found = c.in-Some.ensures.only n digits.0 least within in
    let number : c.in-Some.n ≡ n = cc in
    let same = c.put_sign.ensures.same.cells in
    let cell : cell_at c.put_sign.new.loading.cells c.in-Some.n ≡ st.records.cell name =
    (λ i. cell_at (same i) (number i)) ∙ cells.cells n below in
    let marked : c.cut_digits.result.1.now
    ≡ change_word (mark_in (cell_at c.put_sign.new.loading.cells c.in-Some.n).state
    (cell_at c.put_sign.new.loading.cells c.in-Some.n)) change =
    digits.1 ∙ ap (λ (own : Cell). change_word (mark_in own.state own) change) (sym cell) in
    let form = is.over.marks t name in
    let old : Rows ℕ = rows_of c.args.loading.now.rows in
    let signed : rows_of c.put_sign.new.loading.rows ≡ with_sign old c.args.t n created =
    c.in_ok-put_sign.ensures.rows ∙ (λ i. with_sign old c.args.t (number i) (plus.0 i)) in
    let both : rows_of c.put_change.new.loading.rows ≡ with_both old c.args.t n change created =
    c.in_ok-put_change.ensures.only change form marked
    ∙ (λ i. with_mark (signed i) c.args.t (number i) change) in (
      ap (λ k. k + 1) number,
      subst (λ (rows : Rows ℕ). AreRowsUpTo names st rows c.args.t (n + 1)) (sym both)
          (row_put old c.args.t n change created names st are refl refl),
      subst (λ (rows : Rows ℕ). AreSameButOf c.args.t old rows) (sym both)
          (others_kept old c.args.t n change created),
    )
