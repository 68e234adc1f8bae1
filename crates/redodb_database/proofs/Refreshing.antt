-- A command changes the records and rows at one name, so the memo was right but for that.
use Rattle.std.proofs.Common.{◌≡◌, ◌∙◌, ◌<◌, ◌≤◌, ℕ, length, Bool, true, false, cond, List, [], ◌∷◌, ◌⊎◌, Option, None, is_some, IsTrue, refl, sym, ap, subst, inl, inr}
use Rattle.std.specs.List.{Contains}
use Rattle.std.proofs.lemmas.Bool.{false≢true, ne_eqb}
use Rattle.std.proofs.lemmas.List.{get_or-set_other, get_or-set_same}
use mathlib.Core.Logic.{dite}
use native.Mathlib.Decide.{ℕ_discrete}
use Rattle.redodb_model.specs.Command as commands
use Rattle.redodb_model.specs.Names.{Text, put, by_number}
use Rattle.redodb_model.specs.Support.OutOfDate.{DifferAt}
use Rattle.redodb_model.specs.State.{Cell, Mark, Records, TargetState, Building, idle, is_building}
use Rattle.redodb_model.specs.OutOfDate.{HasReason, OutOfDate, ReasonIn}
use Rattle.redodb_model.proofs.Members.{contains_first, contains_cases, contains_none}
use Rattle.redodb_model.proofs.Region.{differ_back, still_out}
use Rattle.redodb_memo.specs.Memo.{IsRight, WasRight, is_out, memo_count}
use Rattle.redodb_records.specs.Cells.{cell_at, with_cell_at}
use Rattle.redodb_records.specs.Rows.{TargetRows, rows_of, with_always, without_rows, rows_count, with_rows}
use Rattle.redodb_database.specs.Support.Changes.{AreRowsAfter}
use Rattle.redodb_database.specs.declared.hints.Hints.{Hints}
use Rattle.redodb_database.specs.Support.Kept.{KeepsTables, tables_of}
use Rattle.redodb_database.specs.Support.Tables.{AreTables}
use Rattle.redodb_database.specs.declared.redo.Redo.TheInside.{Inside}
use Rattle.redodb_database.proofs.Kept.{AreTables-set_cell, AreTables-set_rows}

other_name : (n m : ℕ) → (Contains (n ∷ []) m → ⊥) → m ≡ n → ⊥
other_name n m far e = far (subst (Contains (n ∷ [])) (sym e) (contains_first n []))

one_name : (n t : ℕ) → Contains (n ∷ []) t → t ≡ n
one_name n t there = elim (contains_cases n [] t there) [
  | inl same ↦ sym same
  | inr none ↦ absurd (contains_none t none)
]

is_or_far : (n t : ℕ) → Contains (n ∷ []) t ⊎ (Contains (n ∷ []) t → ⊥)
is_or_far n t = dite (ℕ_discrete t n)
    (λ same. inl (subst (Contains (n ∷ [])) (sym same) (contains_first n [])))
    (λ other. inr (λ there. other (one_name n t there)))

reason_of_building : (r : Records ℕ) (t : ℕ) (state : TargetState) → IsTrue (is_building state)
    → ReasonIn state r t
reason_of_building r t (Building s) building = tt
reason_of_building r t state building = absurd (false≢true building)

-- a write at a name leaves the others
put_far : {X : Type 0} (n m : ℕ) (x : X) (f : ℕ → X) → (Contains (n ∷ []) m → ⊥)
    → f m ≡ put by_number n x f m
put_far n m x f far =
    ap (λ b. cond b x (f m)) (sym (ne_eqb n m (λ e. other_name n m far (sym e))))

cell_far : (cells : List Cell) (n m : ℕ) (c : Cell) → (Contains (n ∷ []) m → ⊥)
    → cell_at cells m ≡ cell_at (with_cell_at cells n c) m
cell_far cells n m c far = sym (get_or-set_other cells n m c idle (other_name n m far))

module _ (memo : List Bool) (cells : List Cell) (targets : List TargetRows) (n : ℕ)
    (right : IsRight memo (with_rows cells targets))
  where
    pub was_right_by_cell : (c : Cell)
        → WasRight (n ∷ []) memo (with_rows (with_cell_at cells n c) targets)
    was_right_by_cell c = (
      with_rows cells targets,
      record {
        cell = λ m far. cell_far cells n m c far;
        change = λ t m far. refl;
        created = λ t m far. refl;
        always = λ t far. refl;
      },
      right,
    )

    -- the target was begun: its cell was written, and its rows are gone
    module _ (c : Cell) (to : List TargetRows)
        (cleared : rows_of to ≡ without_rows (rows_of targets) n)
      where
        differ_by_start : DifferAt (n ∷ []) (with_rows cells targets)
            (with_rows (with_cell_at cells n c) to)
        differ_by_start =
            let old = rows_of targets in record {
              cell = λ m far. cell_far cells n m c far;
              change = λ t m far.
                  ap (λ (f : ℕ → Option Mark). f m) (put_far n t (λ k. None) old.change far)
                  ∙ sym (ap (λ rows. rows.change t m) cleared);
              created = λ t m far.
                  ap (λ (f : ℕ → Bool). f m) (put_far n t (λ k. false) old.created far)
                  ∙ sym (ap (λ rows. rows.created t m) cleared);
              always = λ t far.
                  put_far n t false old.always far ∙ sym (ap (λ rows. rows.always t) cleared);
            }

        pub was_right_by_start : WasRight (n ∷ []) memo (with_rows (with_cell_at cells n c) to)
        was_right_by_start = (with_rows cells targets, differ_by_start, right)

        -- if it was out of date, the same targets are
        pub right_by_start : n < length cells → IsTrue (is_building c.state)
            → c.file ≡ (cell_at cells n).file → IsTrue (is_out memo n)
            → IsRight memo (with_rows (with_cell_at cells n c) to)
        right_by_start below building same marked t = (
          λ is.
              let was = (right t).0 is in
              still_out differ_by_start
              (λ m. subst (λ (f : Option Text). IsTrue (is_some f)) (file m)) (is_or_far n)
              (λ u there. subst (OutOfDate new) (sym (one_name n u there)) ([], reason))
              was.0 t was.1,
          λ out. (right t).1
              (still_out (differ_back differ_by_start)
              (λ m. subst (λ (f : Option Text). IsTrue (is_some f)) (sym (file m))) (is_or_far n)
              (λ u there.
              subst (OutOfDate (with_rows cells targets)) (sym (one_name n u there))
              ((right n).0 marked)) out.0 t out.1),
        )
          where
            new : Records ℕ
            new = with_rows (with_cell_at cells n c) to

            here : cell_at (with_cell_at cells n c) n ≡ c
            here = get_or-set_same cells n c idle below

            file : (m : ℕ) → (cell_at cells m).file ≡ (cell_at (with_cell_at cells n c) m).file
            file m = elim (is_or_far n m) [
              | inl there ↦
                  subst
                  (λ (k : ℕ). (cell_at cells k).file ≡ (cell_at (with_cell_at cells n c) k).file)
                  (sym (one_name n m there)) (sym same ∙ sym (ap (λ (x : Cell). x.file) here))
              | inr far ↦ ap (λ (x : Cell). x.file) (cell_far cells n m c far)
            ]

            reason : HasReason new n
            reason =
                reason_of_building new n (cell_at (with_cell_at cells n c) n).state
                (subst (λ (x : Cell). IsTrue (is_building x.state)) (sym here) building)

    -- the target is being built: its rows change nothing that is out of date
    module _ (building : IsTrue (is_building (cell_at cells n).state)) where
      right_by_rows : (to : List TargetRows)
          → DifferAt (n ∷ []) (with_rows cells targets) (with_rows cells to)
          → IsRight memo (with_rows cells to)
      right_by_rows to differ t = (
        λ marked.
            let was = (right t).0 marked in
            still_out differ (λ m file. file) (is_or_far n) (outs to) was.0 t was.1,
        λ out. (right t).1
            (still_out (differ_back differ) (λ m file. file) (is_or_far n) (outs targets)
            out.0 t out.1),
      )
        where
          outs : (rows : List TargetRows) (t : ℕ) → Contains (n ∷ []) t
              → OutOfDate (with_rows cells rows) t
          outs rows t there =
              subst (OutOfDate (with_rows cells rows)) (sym (one_name n t there)) (
                [],
                reason_of_building (with_rows cells rows) n (cell_at cells n).state building,
              )

      pub right_by_always : (to : List TargetRows) → rows_of to ≡ with_always (rows_of targets) n
          → IsRight memo (with_rows cells to)
      right_by_always to written =
          let old = rows_of targets in
          right_by_rows to (record {
            cell = λ m far. refl;
            change = λ t m far. sym (ap (λ rows. rows.change t m) written);
            created = λ t m far. sym (ap (λ rows. rows.created t m) written);
            always = λ t far.
                put_far n t true old.always far ∙ sym (ap (λ rows. rows.always t) written);
          })

      pub right_by_changes : {names : List ℕ} {to : List TargetRows}
          → AreRowsAfter cells targets to (commands.IfChange n names)
          → IsRight memo (with_rows cells to)
      right_by_changes {names} {to} changed =
          right_by_rows to
          (subst (DifferAt (n ∷ []) (with_rows cells targets)) (sym (changed.effect 0)) (record {
            cell = λ m far. refl;
            change = λ t m far.
                ap (λ (f : ℕ → Option Mark). f m) (put_far n t _ (rows_of targets).change far);
            created = λ t m far. refl;
            always = λ t far. refl;
          }))

      pub right_by_created : {names : List ℕ} {to : List TargetRows}
          → AreRowsAfter cells targets to (commands.IfCreate n names)
          → IsRight memo (with_rows cells to)
      right_by_created {names} {to} changed =
          right_by_rows to
          (subst (DifferAt (n ∷ []) (with_rows cells targets)) (sym (changed.effect 0)) (record {
            cell = λ m far. refl;
            change = λ t m far. refl;
            created = λ t m far.
                ap (λ (f : ℕ → Bool). f m) (put_far n t _ (rows_of targets).created far);
            always = λ t far. refl;
          }))

-- what all changes of the records have in common: the cells and rows are a database's, and the
-- memo was made right for them
pub refreshed : {inside : Inside} (cells : List Cell) (targets : List TargetRows) {memo : List Bool}
    {hints : Hints} → KeepsTables inside
    → AreTables (record (tables_of inside) { cells = cells; rows = targets })
    → memo_count memo ≡ length cells → IsRight memo (with_rows cells targets)
    → KeepsTables (record inside { records = cells; rows = targets; memo = memo; hints = hints })
refreshed cells targets kept are for_each right = record {
  tables = are;
  memo_for_each = for_each;
  memo_right = right;
  held_for_each = kept.held_for_each;
  held_right = kept.held_right;
}

module _ {inside : Inside} (kept : KeepsTables inside) (n : ℕ) where
  -- a cell was written: the memo was right but for the name
  pub due_by_cell : (c : Cell) {cells : List Cell} → cells ≡ with_cell_at inside.records n c
      → WasRight (n ∷ []) inside.memo (with_rows cells inside.rows)
  due_by_cell c written =
      subst (λ (cs : List Cell). WasRight (n ∷ []) inside.memo (with_rows cs inside.rows))
      (sym written) (was_right_by_cell inside.memo inside.records inside.rows n kept.memo_right c)

  -- and the invariant is kept, if the cell has no more builds than there were calls
  pub cell_refreshed : (c : Cell) {cells : List Cell} {memo : List Bool} {hints : Hints}
      → cells ≡ with_cell_at inside.records n c → c.builds ≤ inside.calls
      → memo_count memo ≡ length cells → IsRight memo (with_rows cells inside.rows)
      → KeepsTables (record inside { records = cells; memo = memo; hints = hints })
  cell_refreshed c {cells} written few =
      refreshed cells inside.rows kept
      (subst (λ (cs : List Cell). AreTables (record (tables_of inside) { cells = cs }))
      (sym written) (AreTables-set_cell (tables_of inside) n c kept.tables few))

-- rows of as many targets were written
pub rows_refreshed : {inside : Inside} (targets : List TargetRows) → KeepsTables inside
    → rows_count targets ≡ rows_count inside.rows
    → IsRight inside.memo (with_rows inside.records targets)
    → KeepsTables (record inside { rows = targets })
rows_refreshed {inside} targets kept same =
    refreshed inside.records targets kept
    (AreTables-set_rows (tables_of inside) targets kept.tables same) kept.memo_for_each
