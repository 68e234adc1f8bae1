use Rattle.redodb_model.specs.OutOfDate.{IsStale}
use Rattle.redodb_model.proofs.Listing.{at_take_all}
use Rattle.std.proofs.Common.{ℕ, ◌↔◌, List}
use Rattle.std.specs.List.{Contains}
use Rattle.redodb_database.specs.Tables.{tables_records}
use Rattle.redodb_database.proofs.Stale.{members_more}
use Rattle.redodb_database.proofs.redo.Redo.stale_among.Goals as goal

pub loop-n-preserved : goal.loop-n-preserved
loop-n-preserved c =
    members_more (IsStale (tables_records c.args.self.now)) c.args.names.now c.loop-n.n-index
    c.loop-n-test.true c.loop-n.stale.items c.push_if.new.names.items c.is_stale-is_due.result
    c.is_stale-is_due.ensures c.in_ok-push_if.ensures c.loop-n.invariant

pub returns : goal.returns
returns c =
    at_take_all (λ (ns : List ℕ). (n : ℕ) → Contains c.loop-n.stale.items n
    ↔ (Contains ns n × IsStale (tables_records c.args.self.now) n)) c.args.names.now
    c.loop-n.n-index c.loop-n-test.false c.loop-n.invariant
