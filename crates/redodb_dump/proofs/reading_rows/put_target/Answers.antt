use Rattle.std.proofs.Common.{◌≡◌, ◌∙◌, ◌<◌, ◌+◌, ℕ, ◌∷◌, length, arith, sym, ap, subst}
use Rattle.std.specs.Prelude.{decimal}
use Rattle.std.specs.List.{flat_map}
use Rattle.redodb_model.specs.Names.{text_at}
use Rattle.redodb_model.specs.State.{Rows}
use Rattle.redodb_records.specs.Rows.{rows_of}
use Rattle.redodb_live.specs.Answers.{flag_word}
use Rattle.redodb_dump.specs.Dumps.{numbers_of, row_words_at}
use Rattle.redodb_dump.specs.Support.Read.{AreRowsUpTo, AreSameButOf, HasNoRowsFrom, joined}
use Rattle.redodb_dump.proofs.DumpWords.{flag_is_word, number_is_word}
use Rattle.redodb_dump.proofs.Failing.{err_then}
use Rattle.redodb_dump.proofs.ReadCells.{is_none}
use Rattle.redodb_dump.proofs.ReadTargets.{flag_put, no_rows_flagged, target_put, with_flag}
use Rattle.redodb_dump.proofs.ReadWords.{cut_word}
use Rattle.redodb_dump.proofs.SameParts.{cells_kept}
use Rattle.redodb_dump.proofs.reading_rows.put_target.Goals as goal

pub returns-in_default-clause-only : goal.returns-in_default-clause-only
returns-in_default-clause-only c = λ names st t is long cells least below are says.
    let own = text_at names t in
    let always = st.records.rows.always own in
    let rows = flat_map (row_words_at names st own) (numbers_of names) in
    let few = is.few in
    let first =
    cut_word (decimal t) (flag_word always ∷ rows) c.args.line.now c.cut_at_space.result.0.now
    c.cut_at_space.result.1.now (number_is_word t (omega (arith, few, below))) says
    c.cut_at_space.ensures in
    let second =
    cut_word (flag_word always) rows c.cut_at_space.result.1.now c.cut_at_space-2.result.0.now
    c.cut_at_space-2.result.1.now (flag_is_word always) first.1 c.cut_at_space-2.ensures in
    let within : t < c.count.result = omega (arith, c.count.ensures, long, below) in
    is_none (c.in_default.ensures.only t first.0 least within)

pub returns-in_err-put_rows-clause-only : goal.returns-in_err-put_rows-clause-only
returns-in_err-put_rows-clause-only c = λ names st t is long cells least below are says.
    let own = text_at names t in
    let always = st.records.rows.always own in
    let rows = flat_map (row_words_at names st own) (numbers_of names) in
    let few = is.few in
    let first =
    cut_word (decimal t) (flag_word always ∷ rows) c.args.line.now c.cut_at_space.result.0.now
    c.cut_at_space.result.1.now (number_is_word t (omega (arith, few, below))) says
    c.cut_at_space.ensures in
    let second =
    cut_word (flag_word always) rows c.cut_at_space.result.1.now c.cut_at_space-2.result.0.now
    c.cut_at_space-2.result.1.now (flag_is_word always) first.1 c.cut_at_space-2.ensures in
    let within : t < c.count.result = omega (arith, c.count.ensures, long, below) in
    let found = c.in-Some.ensures.only t first.0 least within in
    let number : c.in-Some.t ≡ t = cc in
    let old : Rows ℕ = rows_of c.args.loading.now.rows in
    let flagged : rows_of c.put_flag.new.loading.rows ≡ with_flag old t always =
    flag_put always c.cut_at_space-2.result.0.now old (rows_of c.put_flag.new.loading.rows)
    c.in-Some.t second.0 c.put_flag.ensures.yes c.put_flag.ensures.no
    ∙ ap (λ u. with_flag old u always) number in
    let same = c.put_flag.ensures.same in
    let counted = long ∙ sym (ap length same.cells) in
    let kept = cells_kept names st (length names) same cells in
    let none : HasNoRowsFrom (rows_of c.put_flag.new.loading.rows) c.in-Some.t 0 =
    subst (λ u. HasNoRowsFrom (rows_of c.put_flag.new.loading.rows) u 0) (sym number)
    (subst (λ (rows : Rows ℕ). HasNoRowsFrom rows t 0) (sym flagged)
    (no_rows_flagged old t always t (are.others t (omega arith)))) in
    let words =
    second.1
    ∙ ap (λ u. joined (flat_map (row_words_at names st (text_at names u)) (numbers_of names)))
    (sym number) in
    err_then c.from_residual.result c.in_err-put_rows.field-0.0 _ _ c.from_residual.ensures.1
    (c.in_err-put_rows.ensures.only names st is counted kept none words)

pub returns-clause-only : goal.returns-clause-only
returns-clause-only c = λ names st t is long cells least below are says.
    let own = text_at names t in
    let always = st.records.rows.always own in
    let rows = flat_map (row_words_at names st own) (numbers_of names) in
    let few = is.few in
    let first =
    cut_word (decimal t) (flag_word always ∷ rows) c.args.line.now c.cut_at_space.result.0.now
    c.cut_at_space.result.1.now (number_is_word t (omega (arith, few, below))) says
    c.cut_at_space.ensures in
    let second =
    cut_word (flag_word always) rows c.cut_at_space.result.1.now c.cut_at_space-2.result.0.now
    c.cut_at_space-2.result.1.now (flag_is_word always) first.1 c.cut_at_space-2.ensures in
    let within : t < c.count.result = omega (arith, c.count.ensures, long, below) in
    let found = c.in-Some.ensures.only t first.0 least within in
    let number : c.in-Some.t ≡ t = cc in
    let old : Rows ℕ = rows_of c.args.loading.now.rows in
    let flagged : rows_of c.put_flag.new.loading.rows ≡ with_flag old t always =
    flag_put always c.cut_at_space-2.result.0.now old (rows_of c.put_flag.new.loading.rows)
    c.in-Some.t second.0 c.put_flag.ensures.yes c.put_flag.ensures.no
    ∙ ap (λ u. with_flag old u always) number in
    let same = c.put_flag.ensures.same in
    let counted = long ∙ sym (ap length same.cells) in
    let kept = cells_kept names st (length names) same cells in
    let none : HasNoRowsFrom (rows_of c.put_flag.new.loading.rows) c.in-Some.t 0 =
    subst (λ u. HasNoRowsFrom (rows_of c.put_flag.new.loading.rows) u 0) (sym number)
    (subst (λ (rows : Rows ℕ). HasNoRowsFrom rows t 0) (sym flagged)
    (no_rows_flagged old t always t (are.others t (omega arith)))) in
    let words =
    second.1
    ∙ ap (λ u. joined (flat_map (row_words_at names st (text_at names u)) (numbers_of names)))
    (sym number) in
    let put = c.in_ok-put_rows.ensures.only names st is counted kept none words in
    let new : Rows ℕ = rows_of c.put_rows.new.loading.rows in (
      ap (λ u. u + 1) number,
      target_put names st old (rows_of c.put_flag.new.loading.rows) new t are flagged
          (subst (λ u. AreRowsUpTo names st new u (length names)) number put.0)
          (subst (λ u. AreSameButOf u (rows_of c.put_flag.new.loading.rows) new) number put.1),
    )
