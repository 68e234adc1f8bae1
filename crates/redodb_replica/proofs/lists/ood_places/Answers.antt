use Rattle.std.proofs.Common.{◌≡◌, ◌↔◌, ◌∙◌, ◌<◌, ℕ, List, false, IsTrue, get_or, length, replicate, sym, ap, subst, arith}
use Rattle.std.specs.List.{Contains}
use Rattle.std.proofs.lemmas.List.{length-replicate}
use Rattle.redodb_model.specs.Renaming.{AllBelow}
use Rattle.redodb_model.proofs.Listing.{at_take_all, below_at}
use Rattle.redodb_memo.specs.Bits.{IsSet}
use Rattle.redodb_memo.proofs.Marking.{none_marked}
use Rattle.redodb_memo.specs.NameSet.{IsMarked, size_of}
use Rattle.redodb_names.proofs.Ranked.{PlacesOf, places_none, places_more, same_places}
use Rattle.redodb_replica.specs.Support.Lists.{HasFileIn}
use Rattle.redodb_replica.proofs.lists.ood_places.Goals as goal

pub loop-n-init : goal.loop-n-init
loop-n-init c =
    let sorted = c.args.graph.now.sorted in
    let count : ℕ = length c.sorted.result.now in
    rw c.in_ok-places.ensures (record {
      sized = length-replicate count false ∙ ap length c.sorted.ensures;
      placed = places_none sorted (HasFileIn c.args.cells.now) (IsSet (replicate count false))
          (none_marked count);
    })

-- a marked name is below the count
marked_at : (count size : ℕ) (items names : List ℕ) (i : ℕ) → size ≡ count → items ≡ names
    → AllBelow size names → i < length items → get_or items i 0 < count
marked_at count size items names i same is all in' =
    below_at size count items i 0 (subst (AllBelow size) (sym is) all) in' (sym same)

pub has_file-is_due-requires : goal.has_file-is_due-requires
has_file-is_due-requires c =
    marked_at (length c.args.cells.now) (size_of c.args.out.now) c.deref-n-items.result.now
    c.in_ok-marked.marked.items c.loop-n.n-index c.requires.marks c.deref-n-items.ensures.value
    c.in_ok-marked.ensures.below c.loop-n-test.true

pub rank_of-rank-requires-clause-name : goal.rank_of-rank-requires-clause-name
rank_of-rank-requires-clause-name c =
    (c.requires.laid_out.order.1 (get_or c.deref-n-items.result.now c.loop-n.n-index 0)).1
    (marked_at (length c.args.cells.now) (size_of c.args.out.now) c.deref-n-items.result.now
    c.in_ok-marked.marked.items c.loop-n.n-index c.requires.marks c.deref-n-items.ensures.value
    c.in_ok-marked.ensures.below c.loop-n-test.true)

pub insert_if-requires : goal.insert_if-requires
insert_if-requires c = omega (arith, c.loop-n.invariant.sized, c.rank_of-rank.ensures.below)

pub loop-n-preserved : goal.loop-n-preserved
loop-n-preserved c =
    let HasOne = HasFileIn c.args.cells.now in
    let names = c.deref-n-items.result.now in
    let i = c.loop-n.n-index in
    let due = c.has_file-is_due.result in
    let file = c.has_file-is_due.ensures in
    let is : IsTrue due ↔ HasOne (get_or names i 0) = (λ h. sym file ∙ h, λ h. file ∙ h) in
    record {
      sized = c.insert_if.ensures.sized ∙ c.loop-n.invariant.sized;
      placed = places_more c.args.graph.now.sorted HasOne names i c.loop-n-test.true
          c.rank_of-rank.result (IsSet c.loop-n.places) (IsSet c.insert_if.new.places) due
          c.rank_of-rank.ensures.below c.rank_of-rank.ensures.at is c.insert_if.ensures.each
          c.loop-n.invariant.placed;
    }

pub returns : goal.returns
returns c =
    let sorted = c.args.graph.now.sorted in
    let HasOne = HasFileIn c.args.cells.now in
    let names = c.deref-n-items.result.now in
    let Out = IsMarked c.args.out.now in
    let out = c.in_ok-marked.ensures.listed.1 in
    let all = at_take_all (λ ns. PlacesOf sorted HasOne ns (IsSet c.loop-n.places)) names
    c.loop-n.n-index c.loop-n-test.false c.loop-n.invariant.placed in
    let here = subst (λ ns. PlacesOf sorted HasOne ns (IsSet c.loop-n.places))
    c.deref-n-items.ensures.value all in
    same_places (λ n. Contains c.in_ok-marked.marked.items n × HasOne n) (λ n. HasOne n × Out n)
    (λ n. (λ p. (p.1, (out n).0 p.0), λ q. ((out n).1 q.1, q.0))) here
