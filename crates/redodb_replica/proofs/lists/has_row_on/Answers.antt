use Rattle.std.proofs.Common.{◌⊎◌, ℕ, IsTrue, IsSome, get_or, refl, sym, subst, arith}
use Rattle.std.proofs.lemmas.Bool.{false≢true}
use Rattle.std.proofs.lemmas.Option.{slice_get_within}
use Rattle.redodb_replica.specs.declared.rows.Row.{Row}
use Rattle.redodb_replica.specs.PairRows.{change_of}
use Rattle.redodb_replica.specs.Support.Lists.{HasRowAt}
use Rattle.redodb_replica.proofs.RowsOn.{is_on, on_there, place_with_row, row_of_place}
use Rattle.redodb_replica.proofs.lists.has_row_on.Goals as goal

pub row-requires : goal.row-requires
row-requires c =
    let g = c.args.graph.now in
    let pairs = g.tables.pairs.items in
    let block = c.pairs_on-pair-items.result.now in
    let i : ℕ = (get_or block c.loop-pair.pair-index (0, 0)).1 in
    let on = is_on block g.on.items pairs c.args.n c.pairs_on-pair-items.ensures.those
    c.requires.pairs_on c.loop-pair.pair-index c.loop-pair-test.true in
    omega (arith, slice_get_within pairs i (on.0, c.args.n) on.1, c.requires.sized)

pub returns-then-has_rows : goal.returns-then-has_rows
returns-then-has_rows c = λ cells.
    let g = c.args.graph.now in
    let pairs = g.tables.pairs.items in
    let block = c.pairs_on-pair-items.result.now in
    let i : ℕ = (get_or block c.loop-pair.pair-index (0, 0)).1 in
    let on = is_on block g.on.items pairs c.args.n c.pairs_on-pair-items.ensures.those
    c.requires.pairs_on c.loop-pair.pair-index c.loop-pair-test.true in
    let there : HasRowAt c.args.rows.now i =
    subst (λ (row : Row). IsSome (change_of row) ⊎ IsTrue row.created) c.row.ensures
    (c.has_rows.ensures.0 c.if-has_rows.true) in (
      λ _. row_of_place g.tables cells c.args.rows.now c.args.n c.pairs_are_once.ensures
          c.requires.sized i on there,
      λ _. refl,
    )

pub returns : goal.returns
returns c = λ cells.
    let g = c.args.graph.now in
    let rows = c.args.rows.now in
    let block = c.pairs_on-pair-items.result.now in (
      λ e. absurd (false≢true e),
      λ h.
          let place = place_with_row g.tables cells rows c.args.n c.pairs_are_once.ensures
          c.requires.sized h.0 h.1 in
          let at = on_there block g.on.items g.tables.pairs.items c.args.n
          c.pairs_on-pair-items.ensures.those c.requires.pairs_on place.0 place.1 in
          absurd (c.loop-pair.invariant at.0 (omega (arith, at.1, c.loop-pair-test.false))
          (subst (HasRowAt rows) (sym at.2) place.2)),
    )
