use Rattle.std.proofs.Common.{◌≡◌, ◌∙◌, ◌↔◌, ℕ, List, length, map, sym, ap, subst, arith}
use Rattle.std.specs.List.{AllZip, Contains}
use Rattle.std.proofs.lemmas.Option.{slice_get_within, get_or_from_slice_get}
use Rattle.redodb_model.specs.Command.{Item}
use Rattle.redodb_model.specs.Names.{Text}
use Rattle.redodb_model.specs.Renaming.{AllBelow}
use Rattle.redodb_names.specs.Orders.{AreSorted, AreRanks}
use Rattle.redodb_names.proofs.Sorting.{sorted_below}
use Rattle.redodb_journal.specs.Plans.{scripts_of}
use Rattle.redodb_graph.specs.declared.step.Step.{Step}
use Rattle.redodb_graph.specs.Graphs.{IsOn}
use Rattle.redodb_graph.specs.Support.Named.{AreByName}
use Rattle.redodb_graph.specs.Pairs.{PairsOf, AreAscending, AreThose}
use Rattle.redodb_graph.specs.Steps.{TablesOf, AllMean, listed_by}
use Rattle.redodb_graph.proofs.Below.{listed_below}
use Rattle.redodb_graph.proofs.ByName.{on_each}
use Rattle.redodb_graph.proofs.graph.Graph.new.Goals as goal

pub new-requires : goal.new-requires
new-requires c = λ p there.
    let listed = c.in_ok-listed_pairs.ensures ∙ ap listed_by c.scripts-scripts.ensures.scripts in
    let numbers = listed_below c.args.plan.now c.scripts-scripts.ensures.plan p
    (subst (λ (l : List (ℕ × ℕ)). Contains l p) listed there) in
    omega (arith, numbers.0, c.len-count.ensures.count, ap length c.names-names.ensures)

pub new-requires-2 : goal.new-requires-2
new-requires-2 c = λ p there.
    let on = on_pair p there in
    let pair : ℕ × ℕ = (on.0, p.0) in
    let is_in : Contains pairs pair = (
      p.1,
      slice_get_within pairs p.1 pair on.1,
      get_or_from_slice_get pairs p.1 pair pair on.1,
    ) in
    let numbers = listed_below c.args.plan.now c.scripts-scripts.ensures.plan pair
    (subst (λ (l : List (ℕ × ℕ)). Contains l pair) listed
    ((c.in_ok-pairs.ensures.pairs pair).0 is_in)) in
    omega (arith, numbers.1, c.len-count.ensures.count, ap length c.names-names.ensures)
  where
    pairs : List (ℕ × ℕ)
    pairs = c.in_ok-pairs.pairs.items

    listed : c.in_ok-listed_pairs.field-0.items ≡ listed_by c.args.plan.now.scripts
    listed = c.in_ok-listed_pairs.ensures ∙ ap listed_by c.scripts-scripts.ensures.scripts

    named : AreByName pairs (length pairs) c.in_ok-by_name.field-0.items
    named = subst (λ (l : List (ℕ × ℕ)). AreByName l (length l) c.in_ok-by_name.field-0.items)
        c.as_slice.ensures.pairs c.in_ok-by_name.ensures

    on_pair : (p : ℕ × ℕ) → Contains c.in_ok-by_name.field-0.items p → IsOn pairs p.1 p.0
    on_pair p there = (on_each pairs c.in_ok-by_name.field-0.items named p.0 p.1).0 there

pub scripts-requires : goal.scripts-requires
scripts-requires c = λ p there.
    subst (λ (of : PairsOf). Contains of.items p) (sym c.new-numbering.ensures.pairs)
    ((c.in_ok-pairs.ensures.pairs p).1
    (subst (λ (l : List (ℕ × ℕ)). Contains l p) (sym c.in_ok-listed_pairs.ensures) there))

pub ranks_of-requires-clause-below : goal.ranks_of-requires-clause-below
ranks_of-requires-clause-below c =
    subst (λ (ns : List ℕ). AllBelow (length ns) ns) (sym c.deref.ensures.value)
    (sorted_below c.in_ok-sorted.ensures)

pub ranks_of-requires-clause-few : goal.ranks_of-requires-clause-few
ranks_of-requires-clause-few c =
    let same = ap length c.deref.ensures.value in
    omega (arith, c.in_ok-sorted.ensures.whole, same, c.len-count.ensures.count)

pub returns : goal.returns
returns c =
    let tables = c.in_ok-tables.tables in
    let numbered : tables ≡ c.scripts.new.self = c.in_ok-tables.ensures in
    let pairs = c.in_ok-pairs.pairs in
    let same : pairs ≡ tables.pairs =
    sym (ap (λ (of : TablesOf). of.pairs) numbered ∙ c.in_ok-steps.ensures.grows.pairs
    ∙ c.new-numbering.ensures.pairs) in
    let scripts : scripts_of c.scripts-scripts.result.now ≡ c.args.plan.now.scripts =
    c.scripts-scripts.ensures.scripts in
    let steps : List (List Step) = map (λ row. row.items) c.in_ok-steps.steps.items in
    let names : c.names-names.result.now ≡ c.args.plan.now.names = c.names-names.ensures in
    let named : AreByName pairs.items (length pairs.items) c.in_ok-by_name.field-0.items =
    subst (λ (l : List (ℕ × ℕ)). AreByName l (length l) c.in_ok-by_name.field-0.items)
    c.as_slice.ensures.pairs c.in_ok-by_name.ensures in
    let cover : AreThose (listed_by c.args.plan.now.scripts) tables.pairs.items =
    subst (λ (of : PairsOf). AreThose (listed_by c.args.plan.now.scripts) of.items) same
    (subst (λ (l : List (ℕ × ℕ)). AreThose l pairs.items)
    (c.in_ok-listed_pairs.ensures ∙ ap listed_by scripts) c.in_ok-pairs.ensures.pairs) in
    let on : (n i : ℕ) → Contains c.in_ok-on.on.items (n, i) ↔ IsOn pairs.items i n =
    λ n i.
    let those = c.in_ok-on.ensures.pairs (n, i) in
    let each = on_each pairs.items c.in_ok-by_name.field-0.items named n i in
    (λ there. each.0 (those.0 there), λ is. those.1 (each.1 is)) in
    record {
      means = subst (λ (l : List (List (Item ℕ))). AllZip (AllMean tables) l steps) scripts
          (subst (λ (of : TablesOf). AllZip (AllMean of) (scripts_of c.scripts-scripts.result.now)
          steps) (sym numbered) c.in_ok-steps.ensures.steps);
      pairs_cover = cover;
      below = λ p there.
          listed_below c.args.plan.now c.scripts-scripts.ensures.plan p ((cover p).0 there);
      one_pair = subst (λ (of : PairsOf). AreAscending of.items) same c.as_slice.ensures.ascending;
      pairs_on =
          subst (λ (of : PairsOf). (n i : ℕ)
          → Contains c.in_ok-on.on.items (n, i) ↔ IsOn of.items i n) same on;
      one_on =
          subst (λ (of : PairsOf). AreAscending of.items) c.on.view_is c.on.invariant.ascending;
      one_stamp = c.are_once.ensures.stamps;
      one_digest = c.are_once.ensures.digests;
      sorted = subst (λ (ns : List Text). AreSorted ns c.in_ok-sorted.sorted.items) names
          c.in_ok-sorted.ensures;
      ranks = subst (λ (ns : List ℕ). AreRanks ns c.in_ok-ranks.ranks.items)
          c.deref.ensures.value c.in_ok-ranks.ensures;
      targets = ap (λ (of : PairsOf). of.count) (sym same) ∙ c.in_ok-pairs.ensures.count
          ∙ c.len-count.ensures.count ∙ ap length names;
      names = c.in_ok-on.ensures.count ∙ c.len-count.ensures.count ∙ ap length names;
    }
