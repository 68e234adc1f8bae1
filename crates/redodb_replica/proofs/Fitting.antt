-- CompactCells and rows that are written still fit the graph.
use Rattle.std.proofs.Common.{◌≡◌, ◌∙◌, ℕ, ◌<◌, ◌^◌, List, Some, None, length, set, sym, subst, inl, inr}
use Rattle.std.proofs.lemmas.Bool.{cases_eq, cases_lt}
use Rattle.std.proofs.lemmas.Grind.{get_or-set_at}
use Rattle.std.proofs.lemmas.List.{get_or-set_other, length-set, length-replicate}
use Rattle.std.proofs.lemmas.Option.{slice_get_within}
use Rattle.std.proofs.Math.ListN.{replicate}
use Rattle.redodb_model.specs.Command.{Command}
use Rattle.redodb_model.proofs.MorePlaces.{same_everywhere}
use Rattle.redodb_names.specs.Support.Orders.{IsOrderOf}
use Rattle.redodb_names.proofs.Places.{listed_by_place}
use Rattle.redodb_graph.specs.declared.step.Step.{Step}
use Rattle.redodb_graph.specs.declared.step.Step.TheVariants as steps
use Rattle.redodb_graph.specs.Graphs.{GraphOf, AreNumbers}
use Rattle.redodb_graph.specs.Steps.{TablesOf, Means}
use Rattle.redodb_replica.specs.declared.mark.Mark.{Mark}
use Rattle.redodb_replica.specs.declared.rows.Row.{Row}
use Rattle.redodb_replica.specs.declared.cell.CompactCell.{CompactCell}
use Rattle.redodb_replica.specs.CompactCells.{HasEntry, HasEntries, idle_cell}
use Rattle.redodb_replica.specs.PairRows.{IsChanged, IsCleared, IsMade, IsPut, bare}
use Rattle.redodb_replica.specs.Replicas.{IsGraphFor}
use Rattle.redodb_replica.specs.Support.Entries.{HasMark, HasNumber, HaveMarks}
use Rattle.redodb_replica.specs.Support.Fits.{IsFit, IsLinked}

module _ (graph : GraphOf) (cells : List CompactCell)
    (rows : List Row) (fit : IsFit graph cells rows)
  where
    -- a cell is written
    pub cell_fits : (n : ℕ) (cell : CompactCell) → n < length cells
        → HasEntries graph.tables.stamps graph.tables.digests cell
        → IsFit graph (set cells n cell) rows
    cell_fits n cell below entries =
        let sized : length (set cells n cell) ≡ length cells = length-set cells n cell in
        record {
          sized = record { names = sized ∙ fit.sized.names; pairs = fit.sized.pairs };
          number = subst (λ (m : ℕ). m < 2 ^ 32) (sym sized) fit.number;
          linked = subst (λ (m : ℕ). IsLinked m graph) (sym sized) fit.linked;
          entries = λ k. elim (cases_eq k n) [
            | inl e ↦ subst (HasEntries graph.tables.stamps graph.tables.digests)
                (sym (get_or-set_at cells n k cell idle_cell e below)) entries
            | inr ne ↦ subst (HasEntries graph.tables.stamps graph.tables.digests)
                (sym (get_or-set_other cells n k cell idle_cell ne)) (fit.entries k)
          ];
          marks = fit.marks;
        }

    -- the rows are replaced
    pub rows_fit : (new : List Row) → length new ≡ length rows → HaveMarks graph.tables new
        → IsFit graph cells new
    rows_fit new sized marks = record {
      sized = record { names = fit.sized.names; pairs = sized ∙ fit.sized.pairs };
      number = fit.number;
      linked = fit.linked;
      entries = fit.entries;
      marks = marks;
    }

same_some : (mark other : Mark) → Some mark ≡ Some other → mark ≡ other
same_some mark other e = cc

module _ (tables : TablesOf) (old new : List Row) where
  module _ (place : ℕ) (below : place < length old) (marks : HaveMarks tables old) where
    put_marks : (row : Row) → HasMark tables row → HaveMarks tables (set old place row)
    put_marks row mark i = elim (cases_eq i place) [
      | inl e ↦ subst (HasMark tables) (sym (get_or-set_at old place i row bare e below)) mark
      | inr ne ↦ subst (HasMark tables) (sym (get_or-set_other old place i row bare ne)) (marks i)
    ]

    pub changed_marks : (mark : Mark) → HasEntry tables.stamps tables.digests mark
        → IsPut place (IsChanged mark) old new → HaveMarks tables new
    changed_marks mark entry written =
        subst (HaveMarks tables) (sym written.2) (put_marks written.0 (λ other is.
        subst (HasEntry tables.stamps tables.digests)
        (same_some mark other (sym written.1.0 ∙ is)) entry))

    pub made_marks : IsPut place IsMade old new → HaveMarks tables new
    made_marks written =
        subst (HaveMarks tables) (sym written.2)
        (put_marks written.0 (λ mark is. marks place mark (sym written.1.0 ∙ is)))

  pub cleared_marks : (from to : ℕ) → IsCleared from to old new → HaveMarks tables old
      → HaveMarks tables new
  cleared_marks from to cleared marks i = elim (cases_lt i from) [
    | inl before ↦ subst (HasMark tables) (sym (cleared.before i before)) (marks i)
    | inr low ↦ elim (cases_lt i to) [
      | inl less ↦ subst (HasMark tables) (sym (cleared.gone i low less)) none
      | inr after ↦ subst (HasMark tables) (sym (cleared.after i after)) (marks i)
    ]
  ]
    where
      none : HasMark tables bare
      none mark is = cc

pub linked_by_plan : (graph : GraphOf) (names : ℕ) → IsGraphFor names graph
    → IsLinked names graph
linked_by_plan graph names has =
    let is = has.1 in
    record {
      order = subst (λ (m : ℕ). IsOrderOf m graph.sorted) has.2 (listed_by_place is.sorted);
      ranks = is.ranks;
      below = λ p c. subst (λ (m : ℕ). AreNumbers m p) has.2 (is.below p c);
      one_pair = is.one_pair;
      pairs_on = is.pairs_on;
      one_stamp = is.one_stamp;
      one_digest = is.one_digest;
      targets = is.targets ∙ has.2;
      names = is.names ∙ has.2;
    }

-- nothing is known at first
pub fit_at_first : (graph : GraphOf) (names : ℕ) → IsLinked names graph → names < 2 ^ 32
    → IsFit graph (replicate names idle_cell)
    (replicate (length graph.tables.pairs.items) bare)
fit_at_first graph names linked small =
    let sized : length (replicate names idle_cell) ≡ names = length-replicate names idle_cell in
    record {
      sized = record {
        names = sized ∙ sym linked.targets;
        pairs = length-replicate (length graph.tables.pairs.items) bare;
      };
      number = subst (λ (m : ℕ). m < 2 ^ 32) (sym sized) small;
      linked = subst (λ (m : ℕ). IsLinked m graph) (sym sized) linked;
      entries = λ n. subst (HasEntries graph.tables.stamps graph.tables.digests)
          (sym (same_everywhere names n idle_cell)) (record { file = tt; done = tt; digest = tt });
      marks = λ i. subst (HasMark graph.tables)
          (sym (same_everywhere (length graph.tables.pairs.items) i bare)) (λ mark is. cc);
    }

-- the number of a step that stands for a command is one of an entry
pub has_number : (tables : TablesOf) (step : Step) (x : Command ℕ) → Means tables step x
    → HasNumber tables step
has_number tables (steps.File n i) x m = slice_get_within tables.stamps i m.0 m.2
has_number tables (steps.Stamp t i) x m = slice_get_within tables.digests i _ m.2
has_number tables (steps.Done t None) x m = tt
has_number tables (steps.Done t (Some i)) x m = slice_get_within tables.stamps i m.0 m.2
has_number tables step x m = tt
