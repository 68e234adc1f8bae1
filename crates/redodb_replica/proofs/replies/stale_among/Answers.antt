use Rattle.std.proofs.Common.{Bool, List, ℕ, length, sym, subst}
use Rattle.std.specs.List.{Contains}
use Rattle.redodb_model.specs.OutOfDate.{IsStale}
use Rattle.redodb_model.specs.Reply.{Reply}
use Rattle.redodb_model.specs.Renaming.{IsReplyBelow}
use Rattle.redodb_names.specs.Support.Orders.{AreInOrder}
use Rattle.redodb_memo.specs.Memo.{IsRight}
use Rattle.redodb_replica.specs.Replicas.{records_in}
use Rattle.redodb_replica.specs.Support.Changes.{HavePlaces}
use Rattle.redodb_replica.proofs.Layouts.{laid_out}
use Rattle.redodb_replica.proofs.Listed.{listed_places}
use Rattle.redodb_replica.proofs.NamesOn.{names_listed}
use Rattle.redodb_replica.proofs.Tells.{stale_reply_below}
use Rattle.redodb_replica.proofs.replies.stale_among.Goals as goal
use Rattle.redodb_replica.proofs.replies.stale_among.Goals.{After-marks}

pub stale-requires-clause-laid_out : goal.stale-requires-clause-laid_out
stale-requires-clause-laid_out c =
    laid_out c.args.graph.now c.args.cells.now c.args.rows.now c.requires.fit

pub stale-requires-clause-places : goal.stale-requires-clause-places
stale-requires-clause-places c =
    subst (HavePlaces c.args.graph.now.tables.pairs.items (length c.args.cells.now))
    (sym c.listed-places.ensures) c.requires.list.places

-- the marks are right after the memo was settled
right : (c : After-marks)
    → IsRight c.marks.result.now.marks
    (records_in c.args.graph.now.tables c.args.cells.now c.args.rows.now)
right c =
    let r = records_in c.args.graph.now.tables c.args.cells.now c.args.rows.now in
    subst (λ (out : List Bool). IsRight out r) (sym c.marks.ensures) c.settle.ensures.right

pub returns-clause-tells : goal.returns-clause-tells
returns-clause-tells c = λ t names are.
    let g = c.args.graph.now in
    let cells = c.args.cells.now in
    let rows = c.args.rows.now in
    let r = records_in g.tables cells rows in
    let places = c.listed-places.result.now in
    let same = names_listed g.tables.pairs.items places t names
    (listed_places g.tables t names c.args.list.now places c.listed-places.ensures are) in
    let listed = subst (λ (ns : List ℕ). AreInOrder g.sorted (length cells)
    (λ n. Contains ns n × IsStale r n) c.in_ok-names.names.items) same
    (c.in_ok-names.ensures rows (right (goal.at.returns-clause-tells c).After-marks)) in
    (c.in_ok-names.names.items, listed.listed, c.reply_to_ifchange.ensures)

pub returns-clause-below : goal.returns-clause-below
returns-clause-below c =
    let count : ℕ = length c.args.cells.now in
    let listed =
    c.in_ok-names.ensures c.args.rows.now (right (goal.at.returns-clause-below c).After-marks) in
    subst (λ (reply : Reply ℕ). IsReplyBelow count reply) (sym c.reply_to_ifchange.ensures)
    (stale_reply_below count c.in_ok-names.names.items listed.below)
