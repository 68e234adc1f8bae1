use Rattle.std.proofs.Common.{arith}
use Rattle.redodb_model.specs.Names.{by_number}
use Rattle.redodb_model.specs.OutOfDate.{IsSource}
use Rattle.redodb_model.proofs.Listing.{listed_all, listed_more}
use Rattle.redodb_names.proofs.Listed.{listed_below}
use Rattle.redodb_database.specs.Tables.{tables_count, tables_records}
use Rattle.redodb_database.proofs.Unknown.{file_below}
use Rattle.redodb_database.proofs.redo.Redo.sources.Goals as goal

pub loop-n-preserved : goal.loop-n-preserved
loop-n-preserved c =
    rw c.in_ok-push_if.ensures
    (listed_more (IsSource (tables_records c.args.self.now)) c.loop-n.n c.loop-n.names.items
    c.is_source-is_due.result c.is_source-is_due.ensures c.loop-n.invariant)

pub returns-clause-listed : goal.returns-clause-listed
returns-clause-listed c =
    listed_all (IsSource (tables_records c.args.self.now)) c.loop-n.n c.loop-n.names.items
    (λ n source. omega (arith, file_below c.args.self.now n source.1, c.count-n-end.ensures.count))
    c.loop-n.invariant

pub returns-clause-below : goal.returns-clause-below
returns-clause-below c =
    listed_below by_number (IsSource (tables_records c.args.self.now))
    (tables_count c.args.self.now) (λ n source. file_below c.args.self.now n source.1)
    c.loop-n.names.items (returns-clause-listed c)
