use Rattle.std.proofs.Common.{◌≡◌, ◌∙◌, ◌<◌, ℕ, List, Some, length, get_or, sym, ap, subst, arith}
use Rattle.std.specs.Prelude.{is_some}
use Rattle.redodb_model.specs.State.{has_file}
use Rattle.redodb_model.specs.Step.{refusal_of_existing}
use Rattle.redodb_graph.specs.Steps.{AreListed}
use Rattle.redodb_replica.specs.declared.cell.CompactCell.{CompactCell}
use Rattle.redodb_replica.specs.Replicas.{records_in}
use Rattle.redodb_replica.specs.Support.Changes.{ArePlacesOf, HavePlaces}
use Rattle.redodb_replica.proofs.Listed.{file_there, find_here, find_more, find_none, listed_places, place_inside, same_name}
use Rattle.redodb_replica.proofs.NamesOn.{name_below}
use Rattle.redodb_replica.proofs.verdict.existing.Goals as goal
use Rattle.redodb_replica.proofs.verdict.existing.Goals.{After-listed-place-items}

-- the places that were read are those of the names that the list stands for
places_of : (c : After-listed-place-items) (t : ℕ) (names : List ℕ)
    → AreListed c.args.graph.now.tables t names c.args.list.now
    → ArePlacesOf c.args.graph.now.tables.pairs.items t names c.listed-place-items.result.now
places_of c t names =
    listed_places c.args.graph.now.tables t names c.args.list.now
    c.listed-place-items.result.now c.listed-place-items.ensures

have_places : (c : After-listed-place-items)
    → HavePlaces c.args.graph.now.tables.pairs.items (length c.args.cells.now)
    c.listed-place-items.result.now
have_places c =
    subst (HavePlaces c.args.graph.now.tables.pairs.items (length c.args.cells.now))
    (sym c.listed-place-items.ensures) c.requires.places

pub returns-then-is_some : goal.returns-then-is_some
returns-then-is_some c = λ rows t names listed.
    let places = c.listed-place-items.result.now in
    let are = places_of (goal.at.returns-then-is_some c).After-listed-place-items t names listed in
    let i : ℕ = c.loop-place.place-index in
    let place : ℕ = get_or places i 0 in
    let pair : ℕ × ℕ = get_or c.pairs-pairs.result.now place (0, 0) in
    let read : pair ≡ get_or c.args.graph.now.tables.pairs.items place (0, 0) =
    ap (λ (pairs : List (ℕ × ℕ)). get_or pairs place (0, 0)) c.pairs-pairs.ensures.pairs in
    ap refusal_of_existing
    (ap Some (same_name c.args.graph.now.tables t names places are i
    c.loop-place-test.true pair read)
    ∙ find_here (has_file (records_in c.args.graph.now.tables c.args.cells.now rows)) names i
    (omega (arith, are.count, c.loop-place-test.true))
    (file_there c.args.graph.now.tables t names places are i c.loop-place-test.true
    c.args.cells.now rows pair c.is_some.result read
    (c.is_some.ensures ∙ ap (λ (x : CompactCell). is_some x.file) c.get.ensures)
    ∙ c.if-is_some.true)
    ∙ c.loop-place.invariant rows t names listed)

pub loop-place-preserved : goal.loop-place-preserved
loop-place-preserved c = λ rows t names listed.
    let places = c.listed-place-items.result.now in
    let are = places_of (goal.at.loop-place-preserved c).After-listed-place-items t names listed in
    let i : ℕ = c.loop-place.place-index in
    let place : ℕ = get_or places i 0 in
    let pair : ℕ × ℕ = get_or c.pairs-pairs.result.now place (0, 0) in
    let read : pair ≡ get_or c.args.graph.now.tables.pairs.items place (0, 0) =
    ap (λ (pairs : List (ℕ × ℕ)). get_or pairs place (0, 0)) c.pairs-pairs.ensures.pairs in
    find_more (has_file (records_in c.args.graph.now.tables c.args.cells.now rows)) names i
    (omega (arith, are.count, c.loop-place-test.true))
    (file_there c.args.graph.now.tables t names places are i c.loop-place-test.true
    c.args.cells.now rows pair c.is_some.result read
    (c.is_some.ensures ∙ ap (λ (x : CompactCell). is_some x.file) c.get.ensures)
    ∙ c.if-is_some.false)
    ∙ c.loop-place.invariant rows t names listed

pub returns : goal.returns
returns c = λ rows t names listed.
    let are = places_of (goal.at.returns c).After-listed-place-items t names listed in
    ap refusal_of_existing
    (find_none (has_file (records_in c.args.graph.now.tables c.args.cells.now rows)) names
    c.loop-place.place-index (omega (arith, are.count, c.loop-place-test.false))
    ∙ c.loop-place.invariant rows t names listed)

pub bounds-pairs-place : goal.bounds-pairs-place
bounds-pairs-place c =
    let places = c.listed-place-items.result.now in
    subst (λ (ps : List (ℕ × ℕ)). get_or places c.loop-place.place-index 0 < length ps)
    (sym c.pairs-pairs.ensures.pairs)
    (place_inside c.args.graph.now.tables.pairs.items (length c.args.cells.now) places
    c.loop-place.place-index (have_places (goal.at.bounds-pairs-place c).After-listed-place-items)
    c.loop-place-test.true)

pub get-requires : goal.get-requires
get-requires c =
    let places = c.listed-place-items.result.now in
    subst (λ (ps : List (ℕ × ℕ)).
    (get_or ps (get_or places c.loop-place.place-index 0) (0, 0)).1 < length c.args.cells.now)
    (sym c.pairs-pairs.ensures.pairs)
    (name_below c.args.graph.now.tables.pairs.items places (length c.args.cells.now)
    c.loop-place.place-index (have_places (goal.at.get-requires c).After-listed-place-items)
    c.loop-place-test.true)
