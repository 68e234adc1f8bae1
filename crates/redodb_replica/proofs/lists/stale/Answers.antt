use Rattle.std.proofs.Common.{◌<◌, ◌∙◌, ℕ, List, length, map, get_or, sym, ap, subst}
use Rattle.std.specs.List.{All, Contains}
use Rattle.std.proofs.lemmas.Result.{IfOk-weaker}
use Rattle.redodb_model.proofs.Listing.{below_in}
use Rattle.redodb_model.specs.OutOfDate.{IsStale}
use Rattle.redodb_names.proofs.Ranked.{all_placed, in_order_by_places}
use Rattle.redodb_replica.specs.Replicas.{records_in}
use Rattle.redodb_replica.specs.Support.Lists.{names_on}
use Rattle.redodb_replica.proofs.NamesOn.{in_order_alike, names_below, stale_is}
use Rattle.redodb_replica.proofs.lists.stale.Goals as goal

pub names_at-requires : goal.names_at-requires
names_at-requires c =
    let places = c.in_order-places in
    let sorted = c.args.graph.now.sorted in
    let below = all_placed places.result.items c.in_ok-ranks.ensures places.ensures.same in
    subst (λ (ns : List ℕ). All (λ k. k < length ns) c.deref.result.now)
    (sym c.sorted-sorted.ensures)
    (subst (All (λ k. k < length sorted)) (sym c.deref.ensures.value) below)

pub returns : goal.returns
returns c = λ rows right.
    let places = c.in_order-places in
    let g = c.args.graph.now in
    let cells = c.args.cells.now in
    let count : ℕ = length cells in
    let r = records_in g.tables cells rows in
    let names = names_on g.tables.pairs.items c.args.places.now in
    IfOk-weaker c.names_at.result _ _ (λ v named.
    in_order_alike (λ n. Contains names n × IsStale r n) v.items
    (λ n.
    let is = stale_is g.tables cells rows n c.args.out.now.marks right in
    (λ p. (p.0, is.0 p.1), λ p. (p.0, is.1 p.1)))
    (in_order_by_places count places.result.items v.items c.requires.laid_out.order
    (λ n p. below_in count names n
    (names_below g.tables.pairs.items c.args.places.now count c.requires.places) p.0)
    c.in_ok-ranks.ensures places.ensures.rising places.ensures.same
    (named
    ∙ ap (λ (ns : List ℕ). map (λ k. get_or ns k 0) c.deref.result.now) c.sorted-sorted.ensures
    ∙ ap (map (λ k. get_or g.sorted k 0)) c.deref.ensures.value)))
    c.names_at.ensures
