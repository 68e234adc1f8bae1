use Rattle.std.proofs.Common.{◌≡◌, ◌∙◌, ◌<◌, List, refl, sym, ap, arith}
use Rattle.redodb_records.specs.Rows.{Slot, rows_count, slot_at, target_at}
use Rattle.redodb_records.proofs.Listed.{slots_below}
use Rattle.redodb_records.proofs.Slots.{slot_named}
use Rattle.redodb_records.proofs.Told.{news_on}
use Rattle.redodb_records.proofs.Walked.{slots_read}
use Rattle.redodb_records.proofs.rows.DepRows.has_news_on.Goals as goal

pub has_news-requires : goal.has_news-requires
has_news-requires c =
    let slots : List Slot = c.index.result.now.slots in
    let below : c.args.n < rows_count c.args.self.now =
    slots_below c.args.t c.self.view_is c.requires.target c.index.ensures refl c.self.invariant
    c.args.n
    (sym c.in-Some.ensures.there) in
    let named : c.in-Some.slot.now.name ≡ c.args.n =
    ap (λ (s : Slot). s.name) c.in-Some.ensures.slot ∙ slot_named slots c.args.n in
    omega (arith, below, named, c.requires.names)

pub returns-in-Some : goal.returns-in-Some
returns-in-Some c =
    let slots : List Slot = c.index.result.now.slots in
    let same : slots ≡ (target_at c.args.self.now c.args.t).slots =
    slots_read c.args.t c.self.view_is c.requires.target c.index.ensures refl in
    news_on c.args.records.now c.args.self.now c.args.t c.args.n c.in-Some.slot.now
    c.has_news.result (c.in-Some.ensures.slot
    ∙ ap (λ (ss : List Slot). slot_at ss c.args.n) same) c.has_news.ensures
