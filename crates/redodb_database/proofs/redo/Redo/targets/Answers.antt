use Rattle.std.proofs.Common.{arith}
use Rattle.redodb_model.specs.Names.{by_number}
use Rattle.redodb_model.specs.OutOfDate.{HasFile, IsTarget}
use Rattle.redodb_model.proofs.Listing.{listed_all, listed_more}
use Rattle.redodb_names.proofs.Listed.{listed_below}
use Rattle.redodb_database.specs.Tables.{tables_count, tables_records}
use Rattle.redodb_database.proofs.Unknown.{file_below}
use Rattle.redodb_database.proofs.redo.Redo.targets.Goals as goal

pub loop-n-preserved : goal.loop-n-preserved
loop-n-preserved c =
    let r = tables_records c.args.self.now in
    rw c.in_ok-push_if.ensures
    (listed_more (λ n. HasFile r n × IsTarget r n) c.loop-n.n c.loop-n.names.items
    c.is_listed-is_due.result c.is_listed-is_due.ensures c.loop-n.invariant)

pub returns-clause-listed : goal.returns-clause-listed
returns-clause-listed c =
    let r = tables_records c.args.self.now in
    listed_all (λ n. HasFile r n × IsTarget r n) c.loop-n.n c.loop-n.names.items
    (λ n target. omega (arith, file_below c.args.self.now n target.0, c.count-n-end.ensures.count))
    c.loop-n.invariant

pub returns-clause-below : goal.returns-clause-below
returns-clause-below c =
    let r = tables_records c.args.self.now in
    listed_below by_number (λ n. HasFile r n × IsTarget r n) (tables_count c.args.self.now)
    (λ n target. file_below c.args.self.now n target.0) c.loop-n.names.items
    (returns-clause-listed c)
