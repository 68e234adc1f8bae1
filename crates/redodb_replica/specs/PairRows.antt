-- The rows of pairs of a target and a name, by the pairs' places.
use Rattle.std.specs.Prelude.{◌≡◌, ◌↔◌, ℕ, suc, ◌<◌, ◌≤◌, ◌==◌, ◌&&◌, Bool, true, false, if◌then◌else◌, List, [], ◌∷◌, Option, Some, None, option_map, length, slice_get, slice_index_or, slice_set}
use Rattle.redodb_model.specs.Names.{Text}
use Rattle.redodb_model.specs.State.{Rows}
use Rattle.redodb_replica.specs.declared.mark.Mark.{Mark}
use Rattle.redodb_replica.specs.declared.mark.Mark.TheVariants as marks
use Rattle.redodb_replica.specs.declared.rows.Row.{Row}
use Rattle.redodb_replica.specs.declared.rows.RowKind.{RowKind}
use Rattle.redodb_replica.specs.declared.rows.RowKind.TheVariants.{Missing, Absent, Pending, File, Digest, Builds}
use Rattle.redodb_replica.specs.CompactCells.{mark_for}

-- a pair without rows
abbrev pub bare : Row
bare = record { kind = Missing; created = false; number = 0 }

abbrev pub mark_of_kind : RowKind → ℕ → Option Mark
mark_of_kind Missing number = None
mark_of_kind Absent number = Some marks.Absent
mark_of_kind Pending number = Some marks.Pending
mark_of_kind File number = Some (marks.File number)
mark_of_kind Digest number = Some (marks.Digest number)
mark_of_kind Builds number = Some (marks.Builds number)

-- the mark of its change row, if there is one
abbrev pub change_of : Row → Option Mark
change_of row = mark_of_kind row.kind row.number

-- the new row is the old one with a change row of this mark
abbrev pub IsChanged : Mark → Row → Row → Type 0
IsChanged mark old new = (change_of new ≡ Some mark) × (new.created ≡ old.created)

-- the new row is the old one with a created row
abbrev pub IsMade : Row → Row → Type 0
IsMade old new = (change_of new ≡ change_of old) × (new.created ≡ true)

-- the place of the pair of t on n; the end of the list if there is none
abbrev pub pair_place : List (ℕ × ℕ) → ℕ → ℕ → ℕ
pair_place [] t n = 0
pair_place (p ∷ pairs) t n = if (p.0 == t) && (p.1 == n) then 0 else suc (pair_place pairs t n)

-- the rows of the pair at this place
abbrev pub row_at : List Row → ℕ → Row
row_at rows i = slice_index_or rows i bare

-- the rows of the model, with these always rows
abbrev pub rows_of : List Text → List Text → List (ℕ × ℕ) → List Row → (ℕ → Bool) → Rows ℕ
rows_of stamps digests pairs rows always = record {
  change = λ t n.
      option_map (mark_for stamps digests) (change_of (row_at rows (pair_place pairs t n)));
  created = λ t n. (row_at rows (pair_place pairs t n)).created;
  always = always;
}

-- the row at this place is one after the old one, and the others stay
abbrev pub IsPut : ℕ → (Row → Row → Type 0) → List Row → List Row → Type 0
IsPut place After old new =
    (row : Row) × After (row_at old place) row × (new ≡ slice_set old place row)

-- the pairs of t are those at the places between these
abbrev pub IsBlock : List (ℕ × ℕ) → ℕ → ℕ → ℕ → Type 0
IsBlock pairs t from to = (i u n : ℕ) → slice_get pairs i ≡ Some (u, n)
    → (u ≡ t) ↔ ((from ≤ i) × (i < to))

-- the rows at the places between these are gone, and the others stay
pub record IsCleared (from to : ℕ) (old new : List Row) : Type 0 where
  pub sized : length new ≡ length old
  pub gone : (i : ℕ) → from ≤ i → i < to → row_at new i ≡ bare
  pub before : (i : ℕ) → i < from → row_at new i ≡ row_at old i
  pub after : (i : ℕ) → to ≤ i → row_at new i ≡ row_at old i
