use Rattle.std.proofs.Common.{◌≡◌, true, sym, subst, arith}
use Rattle.redodb_records.specs.Rows.{Slot, has_slot}
use Rattle.redodb_records.specs.Support.News.{known, IsNewsOf}
use Rattle.redodb_records.proofs.Told.{named_slot, news_in, no_news}
use Rattle.redodb_records.proofs.news.first_news.Goals as goal

pub news_of-requires : goal.news_of-requires
news_of-requires c =
    c.requires.names c.slot-item.result.name
    (subst (λ (slot : Slot). has_slot c.args.slots.now slot.name ≡ true) (sym c.slot-item.is)
    (named_slot c.args.slots.now c.loop-slot.slot-index c.slot-item.result c.requires.ascending
    c.loop-slot-test.true))

pub returns : goal.returns
returns c = no_news (known c.args.records.now) c.args.slots.now c.requires.ascending
    (λ k d below. c.loop-slot.invariant k d (omega (arith, below, c.loop-slot-test.false)))

pub returns-in-Some : goal.returns-in-Some
returns-in-Some c =
    news_in (known c.args.records.now) c.args.slots.now c.loop-slot.slot-index
    c.slot-item.result c.in-Some.news c.requires.ascending c.loop-slot-test.true
    (subst (λ (slot : Slot). IsNewsOf (known c.args.records.now) slot c.in-Some.news)
    c.slot-item.is c.in-Some.ensures)
