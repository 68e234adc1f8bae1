use Rattle.std.proofs.Common.{◌∙◌, ◌<◌, ℕ, List, length, get_or, sym, ap, subst, arith}
use Rattle.redodb_model.specs.State.{mark_in}
use Rattle.redodb_replica.specs.declared.cell.CompactCell.{CompactCell}
use Rattle.redodb_replica.specs.CompactCells.{HasEntries, cell_of, compact_state_of}
use Rattle.redodb_replica.specs.PairRows.{IsChanged}
use Rattle.redodb_replica.proofs.Fitting.{changed_marks}
use Rattle.redodb_replica.proofs.Listed.{changed_all, changed_more, place_inside, put_sized}
use Rattle.redodb_replica.proofs.NamesOn.{name_below}
use Rattle.redodb_replica.proofs.changes.change_each.Goals as goal

pub loop-place-preserved : goal.loop-place-preserved
loop-place-preserved c =
    let i : ℕ = c.loop-place.place-index in
    let place : ℕ = get_or c.args.places.now i 0 in
    record {
      so_far = λ t names are s.
          changed_more c.args.graph.now.tables t names c.args.places.now are i
          c.loop-place-test.true c.pairs-pairs.ensures.ascending c.args.cells.now
          c.args.rows.now c.loop-place.rows c.put_change.new.self s
          (c.loop-place.invariant.count ∙ c.requires.rows)
          (get_or c.pairs-pairs.result.now place (0, 0)) c.mark.result
          (c.loop-place.invariant.so_far t names are s)
          (ap (λ (pairs : List (ℕ × ℕ)). get_or pairs place (0, 0)) c.pairs-pairs.ensures.pairs)
          (λ stamps digests.
          c.mark.ensures.mark stamps digests
          ∙ ap (λ (x : CompactCell). mark_in (compact_state_of x.state) (cell_of stamps digests x))
          c.get.ensures)
          c.put_change.ensures;
      count =
          put_sized place (IsChanged c.mark.result) c.loop-place.rows c.put_change.new.self
          c.put_change.ensures
          ∙ c.loop-place.invariant.count;
      marks = λ entries marks.
          changed_marks c.args.graph.now.tables c.loop-place.rows c.put_change.new.self place
          (omega (
            arith,
            c.loop-place.invariant.count,
            c.requires.rows,
            place_inside c.args.graph.now.tables.pairs.items (length c.args.cells.now)
                c.args.places.now i c.requires.places c.loop-place-test.true,
          )) (c.loop-place.invariant.marks entries marks) c.mark.result
          (c.mark.ensures.entry c.args.graph.now.tables.stamps c.args.graph.now.tables.digests
          (subst (HasEntries c.args.graph.now.tables.stamps c.args.graph.now.tables.digests)
          (sym c.get.ensures)
          (entries (get_or c.pairs-pairs.result.now place (0, 0)).1)))
          c.put_change.ensures;
    }

pub returns-clause-after : goal.returns-clause-after
returns-clause-after c = λ t names are.
    changed_all c.args.graph.now.tables c.args.cells.now c.args.rows.now c.loop-place.rows t names
    c.loop-place.place-index (omega (arith, are.count, c.loop-place-test.false))
    (c.loop-place.invariant.so_far t names are)

pub bounds-pairs-place : goal.bounds-pairs-place
bounds-pairs-place c =
    subst (λ (ps : List (ℕ × ℕ)). get_or c.args.places.now c.loop-place.place-index 0 < length ps)
    (sym c.pairs-pairs.ensures.pairs)
    (place_inside c.args.graph.now.tables.pairs.items (length c.args.cells.now)
    c.args.places.now c.loop-place.place-index c.requires.places c.loop-place-test.true)

pub get-requires : goal.get-requires
get-requires c =
    subst (λ (ps : List (ℕ × ℕ)).
    (get_or ps (get_or c.args.places.now c.loop-place.place-index 0) (0, 0)).1
    < length c.args.cells.now) (sym c.pairs-pairs.ensures.pairs)
    (name_below c.args.graph.now.tables.pairs.items c.args.places.now (length c.args.cells.now)
    c.loop-place.place-index c.requires.places c.loop-place-test.true)

pub put_change-requires : goal.put_change-requires
put_change-requires c =
    omega (
      arith,
      c.loop-place.invariant.count,
      c.requires.rows,
      place_inside c.args.graph.now.tables.pairs.items (length c.args.cells.now)
          c.args.places.now c.loop-place.place-index c.requires.places c.loop-place-test.true,
    )
