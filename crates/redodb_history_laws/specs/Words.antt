-- The words of the board that a placed history writes.
use Rattle.std.specs.Prelude.{ℕ, ◌+◌, ◌*◌, cond, List, [], ◌∷◌, ◌++◌, ◌==◌}
use Rattle.redodb_model.specs.Names.{Naming}
use Rattle.redodb_model.specs.Command.{Item, target_of}
use Rattle.redodb_model.specs.Placed.{Place, Row, Granted, Busy, Released, PlacedLine, part_of, grants_in, releases_in}
use Rattle.redodb_model.specs.Support.Placed.{holds_by}
use Rattle.redodb_history_laws.specs.RowWord.{word_for}

-- the words after the word of a line, if the line has a row
abbrev pub word_before : {N : Type 0} → Place N → ℕ → List ℕ → List ℕ
word_before (Row r) word words = word ∷ words
word_before (Granted t g) word words = words
word_before (Busy t g) word words = words
word_before (Released t g) word words = words

module _ (naming : Naming ℕ) (plan : ℕ → List (Item ℕ)) where
  -- of a row's line, after these lines of its session
  abbrev pub row_word_of : List (PlacedLine ℕ) → PlacedLine ℕ → ℕ
  row_word_of own line =
      let held = holds_by naming own (target_of line.command) in
      word_for plan line.session line.number line.command held

  abbrev pub row_words_after : List (PlacedLine ℕ) → List (PlacedLine ℕ) → List ℕ
  row_words_after before [] = []
  row_words_after before (line ∷ lines) =
      let word = row_word_of (part_of line.session before) line in
      word_before line.place word (row_words_after (before ++ line ∷ []) lines)

  -- the words of the rows, in order; the rows after them have 0
  abbrev pub row_words_of : List (PlacedLine ℕ) → List ℕ
  row_words_of lines = row_words_after [] lines

module _ {N : Type 0} (naming : Naming N) where
  -- twice the releases of the target, and 1 more while it is held
  abbrev pub claim_word_of : List (PlacedLine N) → N → ℕ
  claim_word_of lines t =
      let free = grants_in naming lines t == releases_in naming lines t in
      2 * releases_in naming lines t + cond free 0 1
