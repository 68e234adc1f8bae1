use Rattle.std.proofs.Common.{◌≢◌, ℕ, List, subst}
use Rattle.std.proofs.lemmas.List.{take_all}
use Rattle.std.specs.List.{Contains}
use Rattle.redodb_model.specs.State.{Idle}
use Rattle.redodb_records.specs.Cells.{cell_at}
use Rattle.redodb_records.specs.Numbers.{Place, numbers_there}
use Rattle.redodb_memo.specs.NameSet.{Enters, size_of}
use Rattle.redodb_database.proofs.Places.{enters_place, place_below}
use Rattle.redodb_database.proofs.targets.enter_targets.Goals as goal

pub enter_place-requires-clause-below : goal.enter_place-requires-clause-below
enter_place-requires-clause-below c =
    place_below (size_of c.args.marks.now) (size_of c.loop-place.marks) c.args.places.now
    c.loop-place.place-index c.place-item.result c.requires.below c.loop-place-test.true
    c.place-item.is c.loop-place.invariant.grown.sized

pub loop-place-preserved : goal.loop-place-preserved
loop-place-preserved c =
    let IsTarget : ℕ → Type 0 = λ t. (cell_at c.args.records.now t).state ≢ Idle in
    enters_place IsTarget c.args.places.now c.loop-place.place-index c.place-item.result
    c.loop-place-test.true c.place-item.is c.loop-place.invariant c.enter_place.ensures

pub returns : goal.returns
returns c =
    let IsTarget : ℕ → Type 0 = λ t. (cell_at c.args.records.now t).state ≢ Idle in
    subst (λ (ps : List Place). Enters (λ t. IsTarget t × Contains (numbers_there ps) t)
    c.args.marks.now c.loop-place.marks)
    (take_all c.loop-place.place-index c.args.places.now c.loop-place-test.false)
    c.loop-place.invariant
