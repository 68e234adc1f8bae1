use Rattle.std.proofs.Common.{◌≡◌, ◌∙◌, ℕ, IsTrue, List, rules, sym, ap, subst, inl, inr}
use Rattle.std.specs.Prelude.{option_map}
use Rattle.std.proofs.lemmas.Bool.{false≢true}
use Rattle.redodb_model.specs.OutOfDate.{IsEdited, ReasonIn}
use Rattle.redodb_model.specs.State.{TargetState, Records, target_state}
use Rattle.redodb_model.specs.State as states
use Rattle.redodb_memo.specs.NameSet.{Marked}
use Rattle.redodb_memo.specs.Support.Regions.{IsDue}
use Rattle.redodb_graph.specs.Graphs.{GraphOf}
use Rattle.redodb_replica.specs.declared.rows.Row.{Row}
use Rattle.redodb_replica.specs.declared.cell.CompactCell.{CompactCell}
use Rattle.redodb_replica.specs.CompactCells.{compact_state_of, entry_of}
use Rattle.redodb_replica.specs.Replicas.{records_in}
use Rattle.redodb_replica.specs.Support.News.{HasDueRow}
use Rattle.redodb_replica.proofs.Walks.{change_is}
use Rattle.redodb_replica.proofs.reason.is_due.Goals as goal
use Rattle.redodb_replica.proofs.reason.is_due.Goals.{then-ne, else-ne}

-- a built target
module _ (graph : GraphOf) (cells : List CompactCell) (rows : List Row) (marks : Marked) (t : ℕ)
    (built : target_state (records_in graph.tables cells rows) t ≡ states.Built) where
  abbrev r : Records ℕ
  r = records_in graph.tables cells rows

  due_by_row : HasDueRow graph.tables cells rows marks t → IsDue r marks t
  due_by_row row = elim row.1 [
    | inl news ↦ inl (subst (λ (s : TargetState). ReasonIn s r t) (sym built)
        (inr (inr (elim news [
          | inl appeared ↦ inl (row.0, appeared.0, appeared.1)
          | inr changed ↦ inr (row.0, changed.0, changed.1, changed.2)
        ]))))
    | inr needs ↦ inr (
      row.0,
      ((λ idle. cc), (change_is graph cells rows row.0 t).1 needs.0),
      needs.1,
    )
  ]

  -- without a reason of its own that isn't news
  row_by_due : (IsEdited r t → ⊥) → (IsTrue (r.rows.always t) → ⊥) → IsDue r marks t
      → HasDueRow graph.tables cells rows marks t
  row_by_due unedited once due = elim due [
    | inl reason ↦ elim (subst (λ (s : TargetState). ReasonIn s r t) built reason) [
      | inl edited ↦ absurd (unedited edited)
      | inr other ↦ elim other [
        | inl always ↦ absurd (once always)
        | inr news ↦ elim news [
          | inl appeared ↦ (appeared.0, inl (inl (appeared.1, appeared.2)))
          | inr changed ↦ (changed.0, inl (inr (changed.1, changed.2, changed.3)))
        ]
      ]
    ]
    | inr w ↦ (w.0, inr ((change_is graph cells rows w.0 t).0 w.1.1, w.2))
  ]

pub returns-else-cell : goal.returns-else-cell
returns-else-cell c =
    let graph = c.args.graph.now in
    let cells = c.args.cells.now in
    let rows = c.args.rows.now in
    let marks = c.args.marks.now in
    let t = c.args.t in
    let read = c.get-cell.ensures in
    let built : target_state (records_in graph.tables cells rows) t ≡ states.Built =
    ap (λ (x : CompactCell). compact_state_of x.state) (sym read)
    ∙ ap compact_state_of c.in-Built.is in
    let stamp = option_map (entry_of graph.tables.stamps) in (
      λ found. due_by_row graph cells rows marks t built (c.has_due_row.ensures.0 found),
      λ due. elim c.if-ne.branch [
        | then-ne w ↦ absurd (false≢true (sym c.if-cell.false ∙ w.value-is ∙ w.if-ne.true))
        | else-ne w ↦
            let same : c.get-cell.result.file ≡ c.get-cell.result.done = search rules in
            c.has_due_row.ensures.1 (row_by_due graph cells rows marks t built
            (λ edited. edited (ap (λ (x : CompactCell). stamp x.file) (sym read) ∙ ap stamp same
            ∙ ap (λ (x : CompactCell). stamp x.done) read))
            (λ on. false≢true (sym c.if-cell.false ∙ w.value-is
            ∙ ap (λ (x : CompactCell). x.always) read ∙ on)) due)
      ],
    )
