use Rattle.std.proofs.Common.{◌∙◌, ℕ, get_or, arith}
use Rattle.redodb_replica.specs.PairRows.{IsMade}
use Rattle.redodb_replica.proofs.Fitting.{made_marks}
use Rattle.redodb_replica.proofs.Listed.{made_all, made_more, place_inside, put_sized}
use Rattle.redodb_replica.proofs.changes.create_each.Goals as goal

pub loop-place-preserved : goal.loop-place-preserved
loop-place-preserved c =
    let i : ℕ = c.loop-place.place-index in
    let place : ℕ = get_or c.args.places.now i 0 in
    record {
      so_far = λ cells t names are s.
          made_more c.args.graph.now.tables t names c.args.places.now are i
          c.loop-place-test.true c.pairs_are_once.ensures cells c.args.rows.now
          c.loop-place.rows c.put_created.new.self s
          (c.loop-place.invariant.count ∙ c.requires.rows)
          (c.loop-place.invariant.so_far cells t names are s) c.put_created.ensures;
      count =
          put_sized place IsMade c.loop-place.rows c.put_created.new.self c.put_created.ensures
          ∙ c.loop-place.invariant.count;
      marks = λ marks.
          made_marks c.args.graph.now.tables c.loop-place.rows c.put_created.new.self place
          (omega (
            arith,
            c.loop-place.invariant.count,
            c.requires.rows,
            place_inside c.args.graph.now.tables.pairs.items c.requires.places.0
                c.args.places.now i c.requires.places.1 c.loop-place-test.true,
          )) (c.loop-place.invariant.marks marks) c.put_created.ensures;
    }

pub returns-clause-after : goal.returns-clause-after
returns-clause-after c = λ cells t names are.
    made_all c.args.graph.now.tables cells c.args.rows.now c.loop-place.rows t names
    c.loop-place.place-index (omega (arith, are.count, c.loop-place-test.false))
    (c.loop-place.invariant.so_far cells t names are)
