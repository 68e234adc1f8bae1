use Rattle.std.proofs.Common.{◌≡◌, ◌↔◌, ◌∙◌, ◌<◌, ◌++◌, ◌∷◌, [], ℕ, List, IsTrue, cond, get_or, length, sym, ap, subst, arith}
use Rattle.std.proofs.lemmas.Grind.{common_steps}
use Rattle.std.specs.List.{Contains}
use Rattle.redodb_model.proofs.Listing.{at_take_all}
use Rattle.redodb_names.proofs.Ranked.{PlacesOf, places_none, places_more, pushed_due}
use Rattle.redodb_memo.specs.NameSet.{size_of}
use Rattle.redodb_replica.specs.Support.Changes.{HavePlaces}
use Rattle.redodb_replica.specs.Support.Lists.{IsStaleIn, names_on}
use Rattle.redodb_replica.proofs.Listed.{place_inside}
use Rattle.redodb_replica.proofs.NamesOn.{length-names_on, name_below, name_there}
use Rattle.redodb_replica.proofs.lists.stale_ranks.Goals as goal

pub loop-place-init : goal.loop-place-init
loop-place-init c =
    rw c.new-ranks.ensures.items
    (places_none c.args.graph.now.sorted (IsStaleIn c.args.cells.now c.args.out.now.marks)
    (Contains []) (λ k none. absurd (omega (arith, none.1))))

-- the name that was read is below the count
read_below : (pairs read : List (ℕ × ℕ)) (places : List ℕ) (i count : ℕ) → read ≡ pairs
    → HavePlaces pairs count places → i < length places
    → (get_or read (get_or places i 0) (0, 0)).1 < count
read_below pairs read places i count is have in' =
    subst (λ (ps : List (ℕ × ℕ)). (get_or ps (get_or places i 0) (0, 0)).1 < count) (sym is)
    (name_below pairs places count i have in')

pub bounds-pairs-place : goal.bounds-pairs-place
bounds-pairs-place c =
    subst (λ (ps : List (ℕ × ℕ)). get_or c.args.places.now c.loop-place.place-index 0 < length ps)
    (sym c.pairs-pairs.ensures.pairs)
    (place_inside c.args.graph.now.tables.pairs.items (length c.args.cells.now)
    c.args.places.now c.loop-place.place-index c.requires.places c.loop-place-test.true)

pub rank_of-rank-requires-clause-name : goal.rank_of-rank-requires-clause-name
rank_of-rank-requires-clause-name c =
    let name : ℕ =
    (get_or c.pairs-pairs.result.now (get_or c.args.places.now c.loop-place.place-index 0) (0, 0)).1
    in
    (c.requires.laid_out.order.1 name).1
    (read_below c.args.graph.now.tables.pairs.items c.pairs-pairs.result.now c.args.places.now
    c.loop-place.place-index (length c.args.cells.now) c.pairs-pairs.ensures.pairs
    c.requires.places c.loop-place-test.true)

pub is_stale-is_due-requires-clause-name : goal.is_stale-is_due-requires-clause-name
is_stale-is_due-requires-clause-name c =
    read_below c.args.graph.now.tables.pairs.items c.pairs-pairs.result.now c.args.places.now
    c.loop-place.place-index (length c.args.cells.now) c.pairs-pairs.ensures.pairs
    c.requires.places c.loop-place-test.true

pub is_stale-is_due-requires-clause-mark : goal.is_stale-is_due-requires-clause-mark
is_stale-is_due-requires-clause-mark c =
    read_below c.args.graph.now.tables.pairs.items c.pairs-pairs.result.now c.args.places.now
    c.loop-place.place-index (size_of c.args.out.now) c.pairs-pairs.ensures.pairs
    (subst (λ (count : ℕ). HavePlaces c.args.graph.now.tables.pairs.items count c.args.places.now)
    (sym c.requires.marks) c.requires.places) c.loop-place-test.true

pub loop-place-preserved : goal.loop-place-preserved
loop-place-preserved c =
    let g = c.args.graph.now in
    let pairs = g.tables.pairs.items in
    let places = c.args.places.now in
    let Q = IsStaleIn c.args.cells.now c.args.out.now.marks in
    let names = names_on pairs places in
    let i : ℕ = c.loop-place.place-index in
    let ranks = c.loop-place.ranks.items in
    let rank = c.rank_of-rank.result in
    let due = c.is_stale-is_due.result in
    let name : ℕ = (get_or c.pairs-pairs.result.now (get_or places i 0) (0, 0)).1 in
    let here : name ≡ get_or names i 0 =
    ap (λ (ps : List (ℕ × ℕ)). (get_or ps (get_or places i 0) (0, 0)).1)
    c.pairs-pairs.ensures.pairs ∙ name_there pairs places i c.loop-place-test.true in
    let in' : i < length names =
    omega (arith, c.loop-place-test.true, length-names_on pairs places) in
    rw c.in_ok-push_if.ensures
    (places_more g.sorted Q names i in' rank (Contains ranks)
    (Contains (ranks ++ cond due (rank ∷ []) [])) due c.rank_of-rank.ensures.below
    (c.rank_of-rank.ensures.at ∙ here)
    (subst (λ (m : ℕ). IsTrue due ↔ Q m) here c.is_stale-is_due.ensures)
    (pushed_due ranks rank due) c.loop-place.invariant)

pub returns : goal.returns
returns c =
    let g = c.args.graph.now in
    let pairs = g.tables.pairs.items in
    let places = c.args.places.now in
    at_take_all (λ ns. PlacesOf g.sorted (IsStaleIn c.args.cells.now c.args.out.now.marks) ns
    (Contains c.loop-place.ranks.items)) (names_on pairs places) c.loop-place.place-index
    (omega (arith, c.loop-place-test.false, length-names_on pairs places)) c.loop-place.invariant

pub returns-in_err-push_if : goal.returns-in_err-push_if
returns-in_err-push_if c = grind (arith, common_steps)
