use Rattle.std.proofs.Common.{rules, refl}
use Rattle.redodb_database.proofs.Made.{made_first, parts_first}
use Rattle.redodb_database.proofs.redo.loading.Loading.new.Goals as goal

pub invariant_of-result : goal.invariant_of-result
invariant_of-result c = record {
  parts = parts_first c.args.count (record {
    cells = c.in_ok-records.records;
    rows = c.in_ok-rows.rows;
    holders = c.in_ok-holders.holders.items;
    grants = c.in_ok-grants.grants.items;
    most = 0;
  }) c.in_ok-held.held c.ranges.count.fits c.in_ok-records.ensures c.in_ok-rows.ensures.count
      (c.in_ok-holders.ensures.items_if_clones_equal (λ y. search rules))
      (c.in_ok-grants.ensures.items_if_clones_equal (λ y e. e)) c.in_ok-held.ensures refl;
}

pub returns-clause-empty : goal.returns-clause-empty
returns-clause-empty c =
    made_first c.args.count (record {
      cells = c.in_ok-records.records;
      rows = c.in_ok-rows.rows;
      holders = c.in_ok-holders.holders.items;
      grants = c.in_ok-grants.grants.items;
      most = 0;
    }) c.in_ok-records.ensures c.in_ok-rows.ensures.rows
    (c.in_ok-holders.ensures.items_if_clones_equal (λ y. search rules))
    (c.in_ok-grants.ensures.items_if_clones_equal (λ y e. e))
