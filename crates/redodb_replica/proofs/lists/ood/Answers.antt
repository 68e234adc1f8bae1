use Rattle.std.proofs.Common.{◌<◌, ◌∙◌, ℕ, List, length, map, get_or, sym, ap, subst}
use Rattle.std.specs.List.{All}
use Rattle.std.proofs.lemmas.Result.{IfOk-weaker}
use Rattle.redodb_model.specs.OutOfDate.{HasFile, OutOfDate}
use Rattle.redodb_names.proofs.Ranked.{all_placed, in_order_by_places, rise_by_number}
use Rattle.redodb_replica.specs.Replicas.{records_in}
use Rattle.redodb_replica.proofs.NamesOn.{file_below, file_is, in_order_alike}
use Rattle.redodb_replica.proofs.lists.ood.Goals as goal

pub names_at-requires : goal.names_at-requires
names_at-requires c =
    let places = c.in_ok-places.places.items in
    let sorted = c.args.graph.now.sorted in
    let below = all_placed places c.in_ok-marked.ensures c.in_ok-places.ensures.listed.1 in
    subst (λ (ns : List ℕ). All (λ k. k < length ns) c.deref.result.now)
    (sym c.sorted-sorted.ensures)
    (subst (All (λ k. k < length sorted)) (sym c.deref.ensures.value) below)

pub returns : goal.returns
returns c = λ rows right.
    let places = c.in_ok-places.places.items in
    let listed = c.in_ok-places.ensures.listed in
    let g = c.args.graph.now in
    let cells = c.args.cells.now in
    let r = records_in g.tables cells rows in
    IfOk-weaker c.names_at.result _ _ (λ v named.
    in_order_alike (λ t. HasFile r t × OutOfDate r t) v.items
    (λ n.
    let file = file_is g.tables cells rows n in
    (λ p. (file.0 p.0, (right n).0 p.1), λ p. (file.1 p.0, (right n).1 p.1)))
    (in_order_by_places (length cells) places v.items c.requires.laid_out.order
    (λ n p. file_below cells n p.0)
    c.in_ok-marked.ensures (rise_by_number places listed.0) listed.1
    (named
    ∙ ap (λ (ns : List ℕ). map (λ k. get_or ns k 0) c.deref.result.now) c.sorted-sorted.ensures
    ∙ ap (map (λ k. get_or g.sorted k 0)) c.deref.ensures.value)))
    c.names_at.ensures
