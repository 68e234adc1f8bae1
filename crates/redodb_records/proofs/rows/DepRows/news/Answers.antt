use Rattle.std.proofs.Common.{arith}
use Rattle.redodb_records.specs.Rows.{rows_count}
use Rattle.redodb_records.specs.Support.News.{known}
use Rattle.redodb_records.proofs.Told.{news_told, news_below}
use Rattle.redodb_records.proofs.rows.DepRows.news.Goals as goal

pub first_news-requires-clause-names : goal.first_news-requires-clause-names
first_news-requires-clause-names c =
    λ n there. omega (arith, c.requires.names, c.slots_of.ensures.below n there)

pub returns-clause-news : goal.returns-clause-news
returns-clause-news c =
    news_told c.args.records.now c.args.self.now c.args.t c.slots_of.result.now
    c.first_news.result c.slots_of.ensures.same c.first_news.ensures

pub returns-clause-below : goal.returns-clause-below
returns-clause-below c =
    news_below (known c.args.records.now) c.slots_of.result.now (rows_count c.args.self.now)
    c.first_news.result c.slots_of.ensures.below c.first_news.ensures
