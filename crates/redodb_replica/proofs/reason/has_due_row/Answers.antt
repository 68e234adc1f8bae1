use Rattle.std.proofs.Common.{◌∙◌, ◌↔◌, ℕ, IsTrue, IsSome, List, length, get_or, refl, sym, ap, subst, inl, inr, arith}
use Rattle.std.proofs.lemmas.Bool.{false≢true}
use Rattle.redodb_memo.specs.NameSet.{IsMarked}
use Rattle.redodb_graph.specs.Graphs.{AreNumbers}
use Rattle.redodb_replica.specs.declared.rows.Row.{Row}
use Rattle.redodb_replica.specs.CompactCells.{cell_at}
use Rattle.redodb_replica.specs.PairRows.{change_of, row_at}
use Rattle.redodb_replica.specs.Support.News.{IsDueRow, IsNews}
use Rattle.redodb_replica.proofs.Blocks.{block_of, once_of}
use Rattle.redodb_replica.proofs.News.{news_at, no_news}
use Rattle.redodb_replica.proofs.Walks.{none_found, none_more, number_at, row_found}
use Rattle.redodb_replica.proofs.reason.has_due_row.Goals as goal
use Rattle.redodb_replica.proofs.reason.has_due_row.Goals.{After-row-row, After-is_news, then-is_news-via-then-is_news, then-is_news-via-else-is_news+then-needs_marked}

-- the pair at the loop's place
abbrev pair_of : After-row-row → ℕ × ℕ
pair_of c = get_or c.pairs-pairs.result.now c.loop-place.place (0, 0)

numbers : (c : After-row-row) → AreNumbers (length c.args.cells.now) (pair_of c)
numbers c =
    number_at c.args.graph.now c.args.cells.now c.args.rows.now c.loop-place.place (pair_of c)
    c.requires.fit (omega (arith, c.loop-place-test.true, c.start-place-end.ensures.within))
    (ap (λ (ps : List (ℕ × ℕ)). get_or ps c.loop-place.place (0, 0)) c.pairs-pairs.ensures.pairs)

-- whether it has news, by the rows and cells
news : (c : After-is_news) → IsTrue c.is_news.result
    ↔ IsNews c.args.graph.now.tables (row_at c.args.rows.now c.loop-place.place)
    (cell_at c.args.cells.now (get_or c.pairs-pairs.result.now c.loop-place.place (0, 0)).1)
news c =
    let fit = c.requires.fit in
    let n : ℕ = (get_or c.pairs-pairs.result.now c.loop-place.place (0, 0)).1 in
    news_at c.args.graph.now.tables c.row-row.result (row_at c.args.rows.now c.loop-place.place)
    c.get.result (cell_at c.args.cells.now n) c.is_news.result c.row-row.ensures c.get.ensures
    fit.linked.one_stamp fit.linked.one_digest (fit.entries n) (fit.marks c.loop-place.place)
    c.is_news.ensures

pub get-requires : goal.get-requires
get-requires c = (numbers (goal.at.get-requires c).After-row-row).1

pub needs_marked-requires : goal.needs_marked-requires
needs_marked-requires c =
    omega (arith, (numbers (goal.at.needs_marked-requires c).After-row-row).1, c.requires.sized)

pub returns-then-is_news : goal.returns-then-is_news
returns-then-is_news c =
    let pairs : List (ℕ × ℕ) = c.args.graph.now.tables.pairs.items in
    let place : ℕ = c.loop-place.place in
    let q : ℕ × ℕ = get_or c.pairs-pairs.result.now place (0, 0) in
    let Due : Row → ℕ → Type 0 =
    IsDueRow c.args.graph.now.tables c.args.cells.now c.args.marks.now in
    let due : Due (row_at c.args.rows.now place) q.1 = elim c.then-is_news.branch [
      | then-is_news-via-then-is_news w ↦
          inl ((news (goal.at.returns-then-is_news c).After-is_news).0 w.if-is_news.true)
      | then-is_news-via-else-is_news+then-needs_marked w ↦
          inr (subst (λ (row : Row). IsSome (change_of row) × IsMarked c.args.marks.now q.1)
          c.row-row.ensures (w.needs_marked.ensures.0 w.if-needs_marked.true))
    ] in
    let found =
    row_found pairs c.args.rows.now c.args.t c.start-place.result c.start-place-end.result Due
    (block_of pairs c.args.t c.start-place.result c.start-place-end.result
    c.start-place.ensures c.start-place-end.ensures)
    place q (once_of pairs c.requires.fit.linked.one_pair)
    (omega (arith, c.loop-place-test.true, c.start-place-end.ensures.within))
    c.loop-place.auto.place c.loop-place-test.true
    (ap (λ (ps : List (ℕ × ℕ)). get_or ps place (0, 0)) c.pairs-pairs.ensures.pairs) due in
    (λ yes. found, λ some. refl)

pub loop-place-preserved : goal.loop-place-preserved
loop-place-preserved c =
    let place : ℕ = c.loop-place.place in
    let q : ℕ × ℕ = get_or c.pairs-pairs.result.now place (0, 0) in
    none_more c.args.graph.now.tables.pairs.items c.args.rows.now c.args.t c.start-place.result
    c.start-place-end.result
    (IsDueRow c.args.graph.now.tables c.args.cells.now c.args.marks.now)
    place q (omega (arith, c.loop-place-test.true, c.start-place-end.ensures.within))
    (ap (λ (ps : List (ℕ × ℕ)). get_or ps place (0, 0)) c.pairs-pairs.ensures.pairs)
    (λ due. elim due [
      | inl is ↦ false≢true (sym c.if-is_news.false
          ∙ (news (goal.at.loop-place-preserved c).After-is_news).1 is)
      | inr needs ↦ false≢true (sym c.if-needs_marked.false ∙ c.needs_marked.ensures.1
          (subst (λ (row : Row). IsSome (change_of row) × IsMarked c.args.marks.now q.1)
          (sym c.row-row.ensures) needs))
    ]) c.loop-place.invariant

pub returns : goal.returns
returns c =
    let pairs : List (ℕ × ℕ) = c.args.graph.now.tables.pairs.items in
    let none =
    none_found pairs c.args.rows.now c.args.t c.start-place.result c.start-place-end.result
    (IsDueRow c.args.graph.now.tables c.args.cells.now c.args.marks.now)
    (block_of pairs c.args.t c.start-place.result c.start-place-end.result
    c.start-place.ensures c.start-place-end.ensures)
    c.loop-place.place c.requires.fit.sized.pairs
    (λ n due. elim due [
      | inl is ↦ no_news c.args.graph.now.tables (cell_at c.args.cells.now n) is
      | inr needs ↦ false≢true needs.0
    ]) c.loop-place-test.false c.loop-place.invariant in
    (λ yes. absurd (false≢true yes), λ some. absurd (none some))
