use Rattle.std.specs.List.{Contains}
use Rattle.redodb_model.specs.Names.{by_number}
use Rattle.redodb_model.specs.OutOfDate.{IsStale}
use Rattle.redodb_model.proofs.Listing.{below_in}
use Rattle.redodb_names.proofs.Listed.{listed_below}
use Rattle.redodb_database.specs.Tables.{tables_count, tables_records}
use Rattle.redodb_database.proofs.Stale.{listed_once}
use Rattle.redodb_database.proofs.redo.Redo.stale.Goals as goal

pub returns-clause-listed : goal.returns-clause-listed
returns-clause-listed c =
    listed_once (λ n. Contains c.args.names.now n × IsStale (tables_records c.args.self.now) n)
    c.in_ok-stale.stale.items c.in_order.result.items c.in_order.ensures.rising
    c.in_order.ensures.same c.in_ok-stale.ensures

pub returns-clause-below : goal.returns-clause-below
returns-clause-below c =
    let count = tables_count c.args.self.now in
    listed_below by_number
    (λ n. Contains c.args.names.now n × IsStale (tables_records c.args.self.now) n) count
    (λ n p. below_in count c.args.names.now n c.requires p.0) c.in_order.result.items
    (returns-clause-listed c)
