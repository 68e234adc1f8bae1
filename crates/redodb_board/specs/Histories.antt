-- Legal placed histories of a plan, in terms of the definitions.
use Rattle.std.specs.Prelude.{◌≡◌, ℕ, ◌+◌, ◌<◌, slice_index, true, List, [], ◌∷◌, ◌++◌, length, map}
use mathlib.Core.Option.{some}
use lib.ListN.{get_elem?}
use Rattle.atomic_table.specs.Table.{State}
use Rattle.std.specs.List.{AllByRecursion}
use Rattle.redodb_model.specs.Names.{Text, texts, text_at}
use Rattle.redodb_model.specs.History as histories
use Rattle.redodb_model.specs.History.{Legal}
use Rattle.redodb_model.specs.Renaming.{named_line, IsLineBelow}
use Rattle.redodb_model.specs.Placed.{Place, line_of, part_of, is_row, IsPlaced}
use Rattle.redodb_model.specs.Support.Journals.{IsOfPlan}
use Rattle.redodb_model.specs.Seen.{HasSeen, StandsIn}
use Rattle.redodb_history_laws.specs.Words.{row_words_of, claim_word_of}
use Rattle.redodb_journal.specs.Plans.{PlanOf, script_of}
use Rattle.redodb_board.specs.Rows.{naming_of, rows_of}
use Rattle.redodb_board.specs.Core.{Line, Begins}
use Rattle.redodb_board.specs.Views.{Part, ViewOf}
use Rattle.redodb_board.specs.Rule.{HasPart, Apart, AllStand}

-- the line of the history, over the names
abbrev pub at_names : PlanOf → Line → histories.Line Text
at_names p line = named_line (text_at p.names) (line_of line)

-- each reply is the database's at its point, the places come in order, each session's lines are a
-- journal of its script, and all names are the plan's
pub record IsHistoryOf (p : PlanOf) (lines : List Line) : Type 0 where
  pub legal : Legal texts (map (at_names p) lines)
  pub placed : IsPlaced (naming_of p) lines
  pub of_plan : IsOfPlan (naming_of p) (script_of p) lines
  pub below : AllByRecursion (IsLineBelow (length p.names)) (map line_of lines)

-- each session's lines are the whole part of it
abbrev pub HasParts : List Part → List Line → Type 0
HasParts parts lines = (s : ℕ) (own : List Line) → HasPart parts s own → part_of s lines ≡ own

-- the row words of a history
abbrev pub words_of : PlanOf → List Line → List ℕ
words_of p lines = row_words_of (naming_of p) (script_of p) lines

-- one legal placed history ends with this line. The session's own lines are the whole part of it,
-- what they had seen occurs in it, and its row words begin with those that the worker saw; after a
-- row it has no others
pub record EndsWith (p : PlanOf) (own : List Line) (seen : List ℕ) (line : Line) : Type 0 where
  pub before : List Line
  pub history : IsHistoryOf p (before ++ line ∷ [])
  pub whole : part_of line.session (before ++ line ∷ []) ≡ own
  pub begins : Begins (words_of p (before ++ line ∷ [])) seen
  pub only : is_row line.place ≡ true → words_of p (before ++ line ∷ []) ≡ seen
  pub had_seen : (place : Place ℕ) → HasSeen own place → StandsIn (before ++ line ∷ []) place

-- the running rule in terms of the definitions: one legal placed history of the plan has the
-- table's words; each seat's lines are whole parts of it, and each seat has seen a beginning of its
-- row words; each session is in exactly one seat, and the seats' word is 0
pub record Runs (p : PlanOf) (s : State (Unit {0}) ViewOf) : Type 0 where
  pub lines : List Line
  pub history : IsHistoryOf p lines
  pub seat : slice_index s.words 0 ≡ 0
  pub rows : (r : ℕ) → r < rows_of p
      → slice_index s.words (r + 1) ≡ slice_index (words_of p lines) r
  pub claims : (t : ℕ) → t < length p.names
      → slice_index s.words (rows_of p + 1 + t) ≡ claim_word_of (naming_of p) lines t
  pub parts : (id : ℕ) (v : ViewOf) → get_elem? s.views id ≡ some v → HasParts v.parts lines
  pub seen : (id : ℕ) (v : ViewOf) → get_elem? s.views id ≡ some v
      → Begins (words_of p lines) v.seen
  pub apart : Apart s.views
  pub stand : AllStand (length p.scripts) s.views
