-- What rows and cells say by numbers is what they stand for.
use Rattle.std.proofs.Common.{◌≡◌, ◌≢◌, ◌↔◌, ◌∙◌, Bool, false, IsTrue, Option, Some, None, IsSome, refl, sym, ap, subst, inl, inr}
use Rattle.std.specs.Prelude.{option_map}
use Rattle.std.proofs.lemmas.Bool.{false≢true}
use Rattle.redodb_model.specs.State as states
use Rattle.redodb_model.specs.State.{mark_in}
use Rattle.redodb_graph.specs.Graphs.{IsOnce}
use Rattle.redodb_graph.specs.Steps.{TablesOf}
use Rattle.redodb_replica.specs.declared.mark.Mark.{Mark}
use Rattle.redodb_replica.specs.declared.rows.Row.{Row}
use Rattle.redodb_replica.specs.declared.cell.CompactCell.{CompactCell}
use Rattle.redodb_replica.specs.CompactCells.{HasEntry, HasEntries, cell_of, entry_of, mark_for, compact_state_of}
use Rattle.redodb_replica.specs.PairRows.{bare, change_of}
use Rattle.redodb_replica.specs.Support.Entries.{HasMark}
use Rattle.redodb_replica.specs.Support.News.{HasChanged, IsNews}
use Rattle.redodb_replica.proofs.Listed.{some_map}
use Rattle.redodb_replica.proofs.Marks.{mark_once}

some_from_map : {X Y : Type 0} (f : X → Y) (o : Option X) (y : Y) → option_map f o ≡ Some y
    → (x : X) × (o ≡ Some x) × (f x ≡ y)
some_from_map f None y e = cc
some_from_map f (Some x) y e = (x, refl, cc)

module _ (tables : TablesOf) (row : Row) (cell : CompactCell) (one_stamp : IsOnce tables.stamps)
    (one_digest : IsOnce tables.digests) (marks : HasMark tables row) where
  abbrev stood : Mark → states.Mark
  stood mark = mark_for tables.stamps tables.digests mark

  abbrev now_of : states.Mark
  now_of = mark_in (compact_state_of cell.state) (cell_of tables.stamps tables.digests cell)

  module _ (now : Mark) (is : stood now ≡ now_of)
      (entry : HasEntry tables.stamps tables.digests now) where
    other_changed : ((mark : Mark) × (change_of row ≡ Some mark) × (mark ≢ now))
        → HasChanged tables row cell
    other_changed w = (
      stood w.0,
      ap (option_map stood) w.1,
      λ e. w.2 (mark_once tables.stamps tables.digests w.0 now one_stamp one_digest
          (marks w.0 w.1) entry (e ∙ sym is)),
    )

    changed_other : HasChanged tables row cell
        → (mark : Mark) × (change_of row ≡ Some mark) × (mark ≢ now)
    changed_other w =
        let found = some_from_map stood (change_of row) w.0 w.1 in
        (found.0, found.1, λ e. w.2 (sym found.2 ∙ ap stood e ∙ is))

    -- if it hasn't appeared, it is news if the marks differ
    pub news_by_mark : (change : Option Mark) (appeared other : Bool) → change ≡ change_of row
        → (IsTrue appeared ↔ (IsTrue row.created × IsSome cell.file)) → appeared ≡ false
        → (IsTrue other ↔ ((mark : Mark) × (change ≡ Some mark) × (mark ≢ now)))
        → IsTrue other ↔ IsNews tables row cell
    news_by_mark change appeared other same appears off differs = (
      λ h.
          let w = differs.0 h in
          inr (other_changed (w.0, sym same ∙ w.1, w.2)),
      λ s. elim s [
        | inl a ↦
            let file : IsSome cell.file = sym (some_map (entry_of tables.stamps) cell.file) ∙ a.1 in
            absurd (false≢true (sym off ∙ appears.1 (a.0, file)))
        | inr changed ↦
            let w = changed_other changed in
            differs.1 (w.0, same ∙ w.1, w.2)
      ],
    )

-- a pair without rows has no news
pub no_news : (tables : TablesOf) (cell : CompactCell) → IsNews tables bare cell → ⊥
no_news tables cell news = elim news [
  | inl appeared ↦ false≢true appeared.0
  | inr changed ↦ none≢some changed.1
]
  where
    none≢some : {mark : states.Mark} → None ≡ Some mark → ⊥
    none≢some e = cc

-- the same of equal rows and cells
pub news_at : (tables : TablesOf) (read row : Row) (got cell : CompactCell) (news : Bool)
    → read ≡ row
    → got ≡ cell → IsOnce tables.stamps → IsOnce tables.digests
    → HasEntries tables.stamps tables.digests cell → HasMark tables row
    → ((ts : TablesOf) → IsOnce ts.stamps → IsOnce ts.digests
    → HasEntries ts.stamps ts.digests got → HasMark ts read → IsTrue news ↔ IsNews ts read got)
    → IsTrue news ↔ IsNews tables row cell
news_at tables read row got cell news row_is cell_is one_stamp one_digest entries marks is =
    subst (λ (s : CompactCell). IsTrue news ↔ IsNews tables row s) cell_is
    (subst (λ (r : Row). IsTrue news ↔ IsNews tables r got) row_is
    (is tables one_stamp one_digest
    (subst (HasEntries tables.stamps tables.digests) (sym cell_is) entries)
    (subst (HasMark tables) (sym row_is) marks)))
