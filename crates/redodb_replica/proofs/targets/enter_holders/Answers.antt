use Rattle.std.proofs.Common.{◌⊎◌, ◌↔◌, ℕ, ◌<◌, IsSome, IsTrue, List, length, get_or, refl, sym, ap, subst, inl, inr, arith}
use Rattle.std.proofs.lemmas.Bool.{false≢true}
use Rattle.redodb_model.specs.OutOfDate.{IsTarget, HasChangeRow, HasCreatedRow}
use Rattle.redodb_replica.specs.declared.rows.Row.{Row}
use Rattle.redodb_replica.specs.PairRows.{change_of}
use Rattle.redodb_replica.specs.Replicas.{records_in}
use Rattle.redodb_replica.proofs.Walks.{has_row_is, on_all, on_more, place_within, target_within}
use Rattle.redodb_replica.proofs.targets.enter_holders.Goals as goal

pub bounds-pairs-place : goal.bounds-pairs-place
bounds-pairs-place c =
    let list : List (ℕ × ℕ) = c.pairs_on-place-items.result.now in
    let k : ℕ = c.loop-place.place-index in
    subst (λ (ps : List (ℕ × ℕ)). (get_or list k (0, 0)).1 < length ps)
    (sym c.pairs-pairs.ensures.pairs)
    (place_within c.args.graph.now c.args.cells.now c.args.rows.now c.requires.fit c.args.n list
    c.pairs_on-place-items.ensures.those k c.loop-place-test.true)

pub row-requires : goal.row-requires
row-requires c = omega (
  arith,
  c.requires.fit.sized.pairs,
  place_within c.args.graph.now c.args.cells.now c.args.rows.now c.requires.fit c.args.n
      c.pairs_on-place-items.result.now c.pairs_on-place-items.ensures.those
      c.loop-place.place-index c.loop-place-test.true,
)

pub is_holder-requires : goal.is_holder-requires
is_holder-requires c =
    target_within c.args.graph.now c.args.cells.now c.args.rows.now c.requires.fit c.args.n
    c.pairs_on-place-items.result.now c.pairs_on-place-items.ensures.those
    c.loop-place.place-index c.pairs-pairs.result.now c.loop-place-test.true
    c.pairs-pairs.ensures.pairs

pub enter_if-requires : goal.enter_if-requires
enter_if-requires c = omega (
  arith,
  c.requires.sized,
  c.loop-place.invariant.grown.sized,
  target_within c.args.graph.now c.args.cells.now c.args.rows.now c.requires.fit c.args.n
      c.pairs_on-place-items.result.now c.pairs_on-place-items.ensures.those
      c.loop-place.place-index c.pairs-pairs.result.now c.loop-place-test.true
      c.pairs-pairs.ensures.pairs,
)

pub loop-place-preserved : goal.loop-place-preserved
loop-place-preserved c =
    let list : List (ℕ × ℕ) = c.pairs_on-place-items.result.now in
    let place : ℕ = (get_or list c.loop-place.place-index (0, 0)).1 in
    let t : ℕ = (get_or c.pairs-pairs.result.now place (0, 0)).0 in
    let r = records_in c.args.graph.now.tables c.args.cells.now c.args.rows.now in
    let P : Row → Type 0 =
    λ row. IsSome (change_of row) ⊎ (IsTrue c.args.created × IsTrue row.created) in
    on_more c.args.graph.now c.args.cells.now c.args.rows.now c.requires.fit c.args.n list
    c.pairs_on-place-items.ensures.those P c.loop-place.place-index t place
    c.is_holder.result c.loop-place-test.true refl
    (ap (λ (ps : List (ℕ × ℕ)). (get_or ps place (0, 0)).0) c.pairs-pairs.ensures.pairs)
    (subst (λ (row : Row). IsTrue c.is_holder.result ↔ (IsTarget r t × P row)) c.row.ensures
    c.is_holder.ensures)
    c.loop-place.invariant c.enter_if.ensures

pub returns : goal.returns
returns c =
    let list : List (ℕ × ℕ) = c.pairs_on-place-items.result.now in
    let r = records_in c.args.graph.now.tables c.args.cells.now c.args.rows.now in
    on_all c.args.graph.now c.args.cells.now c.args.rows.now c.requires.fit c.args.n list
    c.pairs_on-place-items.ensures.those
    (λ row. IsSome (change_of row) ⊎ (IsTrue c.args.created × IsTrue row.created))
    (λ t. IsTarget r t
    × (HasChangeRow r t c.args.n ⊎ (IsTrue c.args.created × HasCreatedRow r t c.args.n)))
    c.loop-place.place-index
    (λ none. elim none [ inl change ↦ false≢true change | inr made ↦ false≢true made.1 ])
    (λ t.
    has_row_is c.args.graph.now c.args.cells.now c.args.rows.now c.args.n t c.args.created)
    c.loop-place-test.false c.loop-place.invariant
