-- What a write to a cell changes of the records.
use Rattle.std.proofs.Common.{◌≡◌, ◌∙◌, ℕ, ◌+◌, ◌<◌, ◌==◌, false, cond, List, [], Option, Some, None, length, set, refl, sym, ap, inl, inr}
use Rattle.std.specs.Prelude.{option_map}
use Rattle.std.proofs.Math.ListN.{replicate}
use Rattle.std.proofs.Math.Path.{fun_ext}
use Rattle.std.proofs.lemmas.Bool.{cases_eq, eq-eqb, ne_eqb}
use Rattle.std.proofs.lemmas.Option.{get_or_from_slice_get}
use Rattle.redodb_model.specs.Names.{Text, put}
use Rattle.redodb_model.specs.State as states
use Rattle.redodb_model.specs.Command.{Command}
use Rattle.redodb_model.specs.Command as commands
use Rattle.redodb_model.specs.Step.{effect_of, with_cell}
use Rattle.redodb_records.specs.Rows.{by_number}
use Rattle.redodb_replica.specs.declared.state.CompactState.TheVariants as coded
use Rattle.redodb_records.proofs.Effects.{set_is_put}
use Rattle.redodb_model.proofs.MorePlaces.{same_everywhere}
use Rattle.redodb_graph.specs.declared.step.Step.TheVariants as steps
use Rattle.redodb_graph.specs.Steps.{TablesOf}
use Rattle.redodb_replica.specs.declared.rows.Row.{Row}
use Rattle.redodb_replica.specs.declared.cell.CompactCell.{CompactCell}
use Rattle.redodb_replica.specs.CompactCells.{cell_of, idle_cell, mark_for, cell_at}
use Rattle.redodb_replica.specs.PairRows.{bare, change_of, pair_place, row_at, rows_of}
use Rattle.redodb_replica.specs.Replicas.{records_in}
use Rattle.redodb_replica.specs.Support.Changes.{HasEffect, IsWithout}
use Rattle.redodb_replica.proofs.Written.{field_of_cond}

pub put_own : {X : Type 0} (f : ℕ → X) (n k : ℕ) (x : X) → x ≡ f n → cond (n == k) x (f k) ≡ f k
put_own f n k x own = elim (cases_eq n k) [
  | inl e ↦ ap (λ b. cond b x (f k)) (eq-eqb n k e) ∙ own ∙ ap f e
  | inr ne ↦ ap (λ b. cond b x (f k)) (ne_eqb n k ne)
]

module _ (tables : TablesOf) (cells : List CompactCell) (n : ℕ) (below : n < length cells) where
  field_set : {X : Type 0} (f : CompactCell → X) (c : CompactCell)
      → (λ (k : ℕ). f (cell_at (set cells n c) k))
      ≡ put by_number n (f c) (λ k. f (cell_at cells k))
  field_set f c = fun_ext (λ k.
      ap f (set_is_put cells n c idle_cell below k)
      ∙ field_of_cond f (n == k) c (cell_at cells k))

  field_kept : {X : Type 0} (f : CompactCell → X) (c : CompactCell) → f c ≡ f (cell_at cells n)
      → ◌≡◌ {A = ℕ → X} (λ k. f (cell_at (set cells n c) k)) (λ k. f (cell_at cells k))
  field_kept f c same = fun_ext same_at
    where
      same_at : (k : ℕ) → f (cell_at (set cells n c) k) ≡ f (cell_at cells k)
      same_at k =
          ap f (set_is_put cells n c idle_cell below k)
          ∙ field_of_cond f (n == k) c (cell_at cells k)
          ∙ put_own (λ (j : ℕ). f (cell_at cells j)) n k (f c) same

  module _ (rows : List Row) where
    -- the cell's cell is written
    cell_written : (c : CompactCell) → c.always ≡ (cell_at cells n).always
        → records_in tables (set cells n c) rows
        ≡ with_cell by_number (records_in tables cells rows) n
        (cell_of tables.stamps tables.digests c)
    cell_written c same =
        let known_cells = field_set (cell_of tables.stamps tables.digests) c in
        let always = field_kept (λ (x : CompactCell). x.always) c same in
        λ i. record {
          cell = known_cells i;
          rows = rows_of tables.stamps tables.digests tables.pairs.items rows (always i);
        }

    pub file_effect : (s i : ℕ) → HasEffect tables cells rows
        (set cells n (record (cell_at cells n) { file = Some i })) rows s (steps.File n i)
    file_effect s i x means =
        cell_written (record (cell_at cells n) { file = Some i }) refl
        ∙ ap (λ (text : Text). effect_of by_number (records_in tables cells rows) s
        (commands.File n text))
        (get_or_from_slice_get tables.stamps i means.0 [] means.2)
        ∙ ap (effect_of by_number (records_in tables cells rows) s) (sym means.1)

    pub gone_effect : (s : ℕ) → HasEffect tables cells rows
        (set cells n (record (cell_at cells n) { file = None })) rows s (steps.Gone n)
    gone_effect s x means =
        cell_written (record (cell_at cells n) { file = None }) refl
        ∙ ap (effect_of by_number (records_in tables cells rows) s) (sym means)

    pub failed_effect : (s : ℕ) → HasEffect tables cells rows
        (set cells n (record (cell_at cells n) { state = coded.Failed })) rows s (steps.Failed n)
    failed_effect s x means =
        cell_written (record (cell_at cells n) { state = coded.Failed }) refl
        ∙ ap (effect_of by_number (records_in tables cells rows) s) (sym means)

    pub stamp_effect : (s i : ℕ) → HasEffect tables cells rows
        (set cells n (record (cell_at cells n) { digest = Some i })) rows s (steps.Stamp n i)
    stamp_effect s i x means =
        let old : states.Cell = cell_of tables.stamps tables.digests (cell_at cells n) in
        cell_written (record (cell_at cells n) { digest = Some i }) refl
        ∙ ap (λ (digest : Text). with_cell by_number (records_in tables cells rows) n
        (record old { digest = Some digest }))
        (get_or_from_slice_get tables.digests i _ [] means.2)
        ∙ ap (effect_of by_number (records_in tables cells rows) s) (sym means.1)

    pub done_effect : (s : ℕ) (stamp : Option ℕ) → HasEffect tables cells rows
        (set cells n (record (cell_at cells n) {
          file = stamp;
          done = stamp;
          state = coded.Built;
          builds = (cell_at cells n).builds + 1;
        })) rows s (steps.Done n stamp)
    done_effect s None x means =
        cell_written (record (cell_at cells n) {
          file = None;
          done = None;
          state = coded.Built;
          builds = (cell_at cells n).builds + 1;
        }) refl
        ∙ ap (effect_of by_number (records_in tables cells rows) s) (sym means)
    done_effect s (Some i) x means =
        cell_written (record (cell_at cells n) {
          file = Some i;
          done = Some i;
          state = coded.Built;
          builds = (cell_at cells n).builds + 1;
        }) refl
        ∙ ap (λ (text : Text). effect_of by_number (records_in tables cells rows) s
        (commands.Done n (Some text)))
        (get_or_from_slice_get tables.stamps i means.0 [] means.2)
        ∙ ap (effect_of by_number (records_in tables cells rows) s) (sym means.1)

    pub start_effect : (new : List Row) (s : ℕ) → IsWithout tables n rows new
        → HasEffect tables cells rows (set cells n (record (cell_at cells n) {
          state = coded.Building s;
          digest = None;
          always = false;
        })) new s (steps.Start n)
    start_effect new s without x means =
        let cell : CompactCell = record (cell_at cells n) {
          state = coded.Building s;
          digest = None;
          always = false;
        } in
        let known_cells = field_set (cell_of tables.stamps tables.digests) cell in
        let always = field_set (λ (y : CompactCell). y.always) cell in
        let cleared =
        ap (rows_of tables.stamps tables.digests tables.pairs.items new) always
        ∙ without.rows (λ k. (cell_at cells k).always) in
        (λ i. record { cell = known_cells i; rows = cleared i })
        ∙ ap (effect_of by_number (records_in tables cells rows) s) (sym means)

-- nothing is known without cells and rows
pub none_known : (tables : TablesOf) (names pairs : ℕ)
    → records_in tables (replicate names idle_cell) (replicate pairs bare) ≡ states.empty.records
none_known tables names pairs =
    let cell : (k : ℕ) → cell_at (replicate names idle_cell) k ≡ idle_cell =
    λ k. same_everywhere names k idle_cell in
    let row : (i : ℕ) → row_at (replicate pairs bare) i ≡ bare =
    λ i. same_everywhere pairs i bare in
    let place : ℕ → ℕ → ℕ = pair_place tables.pairs.items in
    let known_cells : (λ (k : ℕ). cell_of tables.stamps tables.digests
    (cell_at (replicate names idle_cell) k)) ≡ (λ k. states.idle) =
    fun_ext (λ k. ap (cell_of tables.stamps tables.digests) (cell k)) in
    let always : (λ (k : ℕ). (cell_at (replicate names idle_cell) k).always) ≡ (λ k. false) =
    fun_ext (λ k. ap (λ (x : CompactCell). x.always) (cell k)) in
    let change : (λ (t n : ℕ). option_map (mark_for tables.stamps tables.digests)
    (change_of (row_at (replicate pairs bare) (place t n)))) ≡ (λ t n. None) =
    fun_ext (λ t. fun_ext (λ n.
    ap (λ (x : Row). option_map (mark_for tables.stamps tables.digests) (change_of x))
    (row (place t n)))) in
    let created : (λ (t n : ℕ). (row_at (replicate pairs bare) (place t n)).created)
    ≡ (λ t n. false) =
    fun_ext (λ t. fun_ext (λ n. ap (λ (x : Row). x.created) (row (place t n)))) in
    λ i. record {
      cell = known_cells i;
      rows = record { change = change i; created = created i; always = always i };
    }
