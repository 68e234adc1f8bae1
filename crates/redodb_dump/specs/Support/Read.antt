-- What is read of a dump's text.
use Rattle.std.specs.Prelude.{◌≡◌, ◌≢◌, ℕ, ◌<◌, ◌≤◌, Bool, true, false, List, [], ◌∷◌, Option, Some, None, length, slice_index, slice_index_or, ⊤}
use Rattle.std.specs.Char.{is_ascii_digit}
use Rattle.redodb_model.specs.Names.{Text, text_at}
use Rattle.redodb_model.specs.State.{Cell, Mark, Rows, State}
use Rattle.redodb_records.specs.Cells.{cell_at}
use Rattle.redodb_records.specs.Rows.{with_change, with_created}
use Rattle.redodb_database.specs.Support.Parts.{Parts, parts_count}
use Rattle.redodb_text.specs.Texts.{spaced}
use Rattle.redodb_dump.specs.declared.reading.Known.{Known}

-- the words, with single spaces between them
abbrev pub joined : List Text → Text
joined [] = []
joined (w ∷ ws) = spaced w ws

-- the text does not begin with a digit
abbrev pub HasNoDigit : Text → Type 0
HasNoDigit [] = ⊤
HasNoDigit (c ∷ word) = is_ascii_digit c ≡ false

-- this is known of a name but its rows
pub record IsKnown (own : Cell) (count : ℕ) (owner : Option ℕ) (known : Known) : Type 0 where
  pub cell : known.cell ≡ own
  pub grants : known.grants ≡ count
  pub holder : known.holder ≡ owner

-- what is known of the first `count` names but their rows is what the state says
pub record AreCellsUpTo (names : List Text) (st : State Text) (parts : Parts)
    (count : ℕ) : Type 0 where
  pub holder_for_each : length parts.holders ≡ parts_count parts
  pub grants_for_each : length parts.grants ≡ parts_count parts
  pub cells : (k : ℕ) → k < count
      → cell_at parts.cells k ≡ st.records.cell (text_at names k)
  pub holders : (k : ℕ) → k < count
      → slice_index_or parts.holders k None ≡ st.locks.holder (text_at names k)
  pub grants : (k : ℕ) → k < count
      → slice_index parts.grants k ≡ st.locks.grants (text_at names k)

-- a created row more, or the same rows
abbrev pub with_sign : Rows ℕ → ℕ → ℕ → Bool → Rows ℕ
with_sign rows t n true = with_created rows t n
with_sign rows t n false = rows

-- a change row more, or the same rows
abbrev pub with_mark : Rows ℕ → ℕ → ℕ → Option Mark → Rows ℕ
with_mark rows t n None = rows
with_mark rows t n (Some mark) = with_change rows t n mark

-- t has no rows on the names from `least` on
pub record HasNoRowsFrom (rows : Rows ℕ) (t least : ℕ) : Type 0 where
  pub change : (n : ℕ) → least ≤ n → rows.change t n ≡ None
  pub created : (n : ℕ) → least ≤ n → rows.created t n ≡ false

-- the rows of t on the first `count` names are those of the state, and there are no others
pub record AreRowsUpTo (names : List Text) (st : State Text) (rows : Rows ℕ)
    (t count : ℕ) : Type 0 where
  pub change : (n : ℕ) → n < count
      → rows.change t n ≡ st.records.rows.change (text_at names t) (text_at names n)
  pub created : (n : ℕ) → n < count
      → rows.created t n ≡ st.records.rows.created (text_at names t) (text_at names n)
  pub others : HasNoRowsFrom rows t count

-- the rows of other targets are the same, and so are always rows
pub record AreSameButOf (t : ℕ) (old new : Rows ℕ) : Type 0 where
  pub change : (u n : ℕ) → u ≢ t → new.change u n ≡ old.change u n
  pub created : (u n : ℕ) → u ≢ t → new.created u n ≡ old.created u n
  pub always : (u : ℕ) → new.always u ≡ old.always u

-- the rows of the first `count` targets are those of the state, and there are no others
pub record AreTargetsUpTo (names : List Text) (st : State Text) (rows : Rows ℕ)
    (count : ℕ) : Type 0 where
  pub targets : (t : ℕ) → t < count → AreRowsUpTo names st rows t (length names)
  pub always : (t : ℕ) → t < count
      → rows.always t ≡ st.records.rows.always (text_at names t)
  pub others : (t : ℕ) → count ≤ t → HasNoRowsFrom rows t 0
  pub no_always : (t : ℕ) → count ≤ t → rows.always t ≡ false

-- each number has what its name has
pub record IsNumbered (names : List Text) (st : State Text) (own : State ℕ) : Type 0 where
  pub cells : (k : ℕ) → k < length names
      → own.records.cell k ≡ st.records.cell (text_at names k)
  pub holders : (k : ℕ) → k < length names
      → own.locks.holder k ≡ st.locks.holder (text_at names k)
  pub grants : (k : ℕ) → k < length names
      → own.locks.grants k ≡ st.locks.grants (text_at names k)
  pub rows : AreTargetsUpTo names st own.records.rows (length names)
