-- Rows that are written one by one, and the command's effect on the records that they make up.
use Rattle.std.proofs.Common.{◌≡◌, ℕ, ◌+◌, ◌<◌, ◌≤◌, ◌==◌, cond, List, None, length, get_or, take, subst}
use Rattle.std.proofs.Math.Path.{fun_ext}
use Rattle.std.proofs.lemmas.List.{take_all}
use Rattle.redodb_model.specs.Names.{by_number}
use Rattle.redodb_model.specs.Command as commands
use Rattle.redodb_model.specs.State.{Cell, Mark, Building, idle, mark_of}
use Rattle.redodb_model.specs.Step.{effect_of}
use Rattle.redodb_records.specs.Cells.{cell_at, with_cell_at}
use Rattle.redodb_records.specs.Rows.{TargetRows, rows_of, with_change, with_created, with_always, without_rows, with_rows}
use Rattle.redodb_records.proofs.Effects.{set_is_put, change_more, created_more}
use Rattle.redodb_database.specs.Support.Changes.{AreRowsAfter}
use Rattle.redodb_database.specs.Tables.{Tables, tables_records}

-- the rows over these cells, written name by name
module _ {cells : List Cell} {from before now : List TargetRows} {t : ℕ} (ns : List ℕ) (i : ℕ)
    (below : i < length ns) where
  pub changed_more : {mark : Mark}
      → AreRowsAfter cells from before (commands.IfChange t (take i ns))
      → rows_of now ≡ with_change (rows_of before) t (get_or ns i 0) mark
      → mark ≡ mark_of (with_rows cells from) (get_or ns i 0)
      → AreRowsAfter cells from now (commands.IfChange t (take (i + 1) ns))
  changed_more {mark} so_far written marked = record {
    effect = λ s. change_more (with_rows cells from) s t ns i below (rows_of before) (rows_of now)
        mark (so_far.effect s) written marked;
  }

  pub made_more : AreRowsAfter cells from before (commands.IfCreate t (take i ns))
      → rows_of now ≡ with_created (rows_of before) t (get_or ns i 0)
      → AreRowsAfter cells from now (commands.IfCreate t (take (i + 1) ns))
  made_more so_far written = record {
    effect = λ s. created_more (with_rows cells from) s t ns i below (rows_of before)
        (rows_of now) (so_far.effect s) written;
  }

-- so they are the rows after the command, once all names are done
module _ {cells : List Cell} {from now : List TargetRows} {t : ℕ} (ns : List ℕ) (i : ℕ)
    (all : length ns ≤ i) where
  pub changed_all : AreRowsAfter cells from now (commands.IfChange t (take i ns))
      → AreRowsAfter cells from now (commands.IfChange t ns)
  changed_all =
      subst (λ (names : List ℕ). AreRowsAfter cells from now (commands.IfChange t names))
      (take_all i ns all)

  pub made_all : AreRowsAfter cells from now (commands.IfCreate t (take i ns))
      → AreRowsAfter cells from now (commands.IfCreate t ns)
  made_all =
      subst (λ (names : List ℕ). AreRowsAfter cells from now (commands.IfCreate t names))
      (take_all i ns all)

-- what a start and an always write
module _ (t : Tables) (n : ℕ) (to : List TargetRows) where
  pub started : (s : ℕ) → n < length t.cells → rows_of to ≡ without_rows (rows_of t.rows) n
      → tables_records (record t {
        cells = with_cell_at t.cells n
            (record (cell_at t.cells n) { state = Building s; digest = None });
        rows = to;
      })
      ≡ effect_of by_number (tables_records t) s (commands.Start n)
  started s below cleared =
      let cell : Cell = record (cell_at t.cells n) { state = Building s; digest = None } in
      let cells : (λ (k : ℕ). cell_at (with_cell_at t.cells n cell) k)
      ≡ (λ k. cond (n == k) cell (cell_at t.cells k)) =
      fun_ext (set_is_put t.cells n cell idle below) in
      λ i. record { cell = cells i; rows = cleared i }

  pub put_for_always : (s : ℕ) → rows_of to ≡ with_always (rows_of t.rows) n
      → tables_records (record t { rows = to })
      ≡ effect_of by_number (tables_records t) s (commands.Always n)
  put_for_always s written = λ i. record { cell = cell_at t.cells; rows = written i }
