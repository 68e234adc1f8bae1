use Rattle.std.proofs.Common.{◌≡◌, ◌∙◌, ◌++◌, ◌∷◌, ◌<◌, [], ℕ, List, Some, slice_get, length, get_or, ap, append_assoc, arith, rules}
use Rattle.std.proofs.lemmas.List.{get_or_default}
use Rattle.std.specs.List.{Contains}
use Rattle.redodb_graph.proofs.Covered.{covers_name}
use Rattle.redodb_graph.proofs.Growing.{all_next}
use Rattle.redodb_graph.proofs.numbering.push_places.Goals as goal

pub unreachable-requires : goal.unreachable-requires
unreachable-requires c =
    let names = c.args.names.now in
    let at = c.loop-name.name-index in
    let n = get_or names at 0 in
    let below : at < length names = omega arith in
    let there : Contains c.args.pairs.now.items (c.args.target, n) =
    covers_name c.args.pairs.now.items c.args.target names at n below
    (get_or_default names at 0 n below) c.requires in
    let some = c.find_guessed.ensures.there.1 there in
    search (rules, some)

pub loop-name-preserved : goal.loop-name-preserved
loop-name-preserved c =
    let names = c.args.names.now in
    let at = c.loop-name.name-index in
    let n = get_or names at 0 in
    let below : at < length names = omega arith in
    let before = c.loop-name.invariant in
    let place = c.in-Some.place in (
      before.0 ++ place ∷ [],
      c.in_ok-push.ensures.items ∙ ap (λ (l : List ℕ). l ++ place ∷ []) before.1
          ∙ append_assoc c.args.listed.now.items before.0 (place ∷ []),
      all_next (λ n i. slice_get c.args.pairs.now.items i ≡ Some (c.args.target, n)) names before.0
          at n place below (get_or_default names at 0 n below) before.2 c.in-Some.ensures.found,
    )
