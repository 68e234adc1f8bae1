use Rattle.std.proofs.Common.{◌≡◌, ◌∙◌, ℕ, List, length, sym, ap, subst, arith}
use Rattle.std.proofs.lemmas.List.{length-replicate}
use Rattle.std.proofs.Math.ListN.{replicate}
use Rattle.redodb_model.specs.State.{empty}
use Rattle.redodb_model.proofs.MorePlaces.{same_everywhere}
use Rattle.redodb_memo.specs.Memo.{IsRight}
use Rattle.redodb_memo.proofs.Deriving.{right_but_seeds}
use Rattle.redodb_replica.specs.declared.cell.CompactCell.{CompactCell}
use Rattle.redodb_replica.specs.CompactCells.{idle_cell}
use Rattle.redodb_replica.specs.PairRows.{bare}
use Rattle.redodb_replica.specs.Replicas.{records_in}
use Rattle.redodb_replica.specs.Support.Changes.{AreBuilt}
use Rattle.redodb_replica.specs.Support.Fits.{IsFit}
use Rattle.redodb_replica.proofs.Effects.{none_known}
use Rattle.redodb_replica.proofs.Fitting.{fit_at_first, linked_by_plan}
use Rattle.redodb_replica.proofs.replica.Replica.new.Goals as goal

pub returns-clause-empty : goal.returns-clause-empty
returns-clause-empty c =
    ap (λ (cells : List CompactCell). records_in c.args.graph.now.tables cells c.in_ok-rows.rows)
    c.in_ok-cells.ensures
    ∙ ap (records_in c.args.graph.now.tables (replicate c.args.names idle_cell))
    c.in_ok-rows.ensures
    ∙ none_known c.args.graph.now.tables c.args.names _

pub invariant_of-result : goal.invariant_of-result
invariant_of-result c =
    let graph = c.args.graph.now in
    let names : ℕ = c.args.names in
    let pairs : List (ℕ × ℕ) = graph.tables.pairs.items in
    let cells_are : c.in_ok-cells.cells ≡ replicate names idle_cell = c.in_ok-cells.ensures in
    let rows_are : c.in_ok-rows.rows ≡ replicate (length pairs) bare =
    c.in_ok-rows.ensures
    ∙ ap (λ (ps : List (ℕ × ℕ)). replicate (length ps) bare) c.pairs.ensures.pairs in
    let empty_known : records_in graph.tables c.in_ok-cells.cells c.in_ok-rows.rows
    ≡ empty.records =
    ap (λ (cells : List CompactCell). records_in graph.tables cells c.in_ok-rows.rows) cells_are
    ∙ ap (records_in graph.tables (replicate names idle_cell)) rows_are
    ∙ none_known graph.tables names (length pairs) in
    record {
      fit =
          subst (λ (cells : List CompactCell). IsFit graph cells c.in_ok-rows.rows) (sym cells_are)
          (subst (IsFit graph (replicate names idle_cell)) (sym rows_are)
          (fit_at_first graph names (linked_by_plan graph names c.requires)
          c.ranges.names.fits));
      builds = subst (AreBuilt 0) (sym cells_are) (record {
        each = λ n. omega (
          arith,
          ap (λ (cell : CompactCell). cell.builds) (same_everywhere names n idle_cell),
        );
      });
      remembered = record {
        sized =
            c.in_ok-memo.ensures.count
            ∙ sym (ap length cells_are ∙ length-replicate names idle_cell);
        right =
            right_but_seeds c.in_ok-memo.memo.seeds c.in_ok-memo.memo.out _
            (subst (IsRight c.in_ok-memo.memo.out) (sym empty_known) c.in_ok-memo.ensures.right);
      };
    }
