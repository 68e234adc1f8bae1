use Rattle.redodb_replica.proofs.News.{news_by_mark}
use Rattle.redodb_replica.proofs.reason.is_news.Goals as goal

pub returns-else-has_appeared : goal.returns-else-has_appeared
returns-else-has_appeared c = λ tables one_stamp one_digest entries marks.
    news_by_mark tables c.args.row.now c.args.cell.now one_stamp one_digest marks c.mark.result
    (c.mark.ensures.mark tables.stamps tables.digests)
    (c.mark.ensures.entry tables.stamps tables.digests entries)
    c.change.result c.has_appeared.result c.is_other.result c.change.ensures
    c.has_appeared.ensures c.if-has_appeared.false c.is_other.ensures
