-- The results of the calls.
use Rattle.std.specs.Prelude.{◌≡◌, ℕ, ◌+◌, ◌<◌, ◌≤◌, List, [], ◌∷◌, ◌++◌, length, All, Option, Some, MatchOption, Result, IfOk, OnErr, ⊤, slice_index}
use Rattle.std.specs.Borrow.{Bor, Fml, MutBor, RattleType, follows_so}
use mathlib.Core.Option.{none}
use Rattle.redodb_model.specs.Placed.{rows_in}
use Rattle.redodb_model.specs.Journals.{numbered, IsJointOrder}
use Rattle.redodb_history_laws.specs.Words.{claim_word_of}
use Rattle.redodb_journal.specs.Plans.{PlanOf, script_of}
use Rattle.redodb_journal.specs.Journals.{told_by, IsMarked}
use Rattle.redodb_journal.specs.declared.entry.Entry.{Entry}
use Rattle.redodb_journal.specs.declared.entry.Journal.{Journal}
use Rattle.redodb_board.specs.declared.board.Board.{Board}
use Rattle.redodb_board.specs.declared.seat.Seat.{Seat}
use Rattle.redodb_board.specs.declared.worker.Worker.{Worker}
use Rattle.redodb_board.specs.Rows.{rows_of, naming_of}
use Rattle.redodb_board.specs.Core.{Line, Begins}
use Rattle.redodb_board.specs.Views.{Part}
use Rattle.redodb_board.specs.Histories.{IsHistoryOf, HasParts, EndsWith, words_of}
use Rattle.redodb_board.specs.Shown.{parts_of, seen_at, lines_in, session_of, journal_of, entries_of, seen_by, tries_of, rows_up_to, next_by, IsAtEnd, IsLast, NeedsNoRow}
use Rattle.redodb_board.specs.Kept.{SitsAt, WorksAt}

-- one command more was done: that of the line that the session does next. A legal history ends with
-- its line, and every row word that was seen stays seen
pub record Made (p : PlanOf) (old new : Worker) : Type 0 where
  pub line : Line
  pub grown : journal_of p new ≡ journal_of p old ++ line ∷ []
  pub session : line.session ≡ session_of old
  pub next : next_by p old ≡ Some (numbered line)
  pub ends : EndsWith p (journal_of p new) (seen_by new) line
  pub begins : Begins (seen_by new) (seen_by old)
  pub tries : tries_of new ≡ rows_up_to 0 (journal_of p new)

-- nothing was done, the same command is next, and rows may have been seen
pub record Waits (p : PlanOf) (old new : Worker) : Type 0 where
  pub same : journal_of p new ≡ journal_of p old
  pub next : next_by p new ≡ next_by p old
  pub begins : Begins (seen_by new) (seen_by old)

-- the result lends from s only by `&`, and this is true of the value of s in the end
abbrev pub Rests : (R : RattleType) → MutBor R.Denot → (R.Denot → Type 0) → Fml
Rests R s P = follows_so R R s.ghost_name none (λ _ _. ⊤) P

-- what a step leaves: the command's entry is the last, and is lent; at the end there is none
pub record Stepped (p : PlanOf) (b : Board) (old : Worker)
    {E : Type 0} (result : Result (Option (Bor Entry)) E) (new : Worker) : Type 0 where
  pub works : WorksAt p b new
  pub session : session_of new ≡ session_of old
  pub ok : IfOk result (λ lent. MatchOption lent (IsAtEnd p old × (new ≡ old))
      (λ entry. Made p old new × IsLast (entries_of new) (Some entry)))
  pub err : OnErr result (Waits p old new)
  pub no_row : NeedsNoRow p old → tries_of new ≡ tries_of old

-- the seat after a worker, with its journal
pub record Leaves (p : PlanOf) (b : Board) (w : Worker) (seat : Seat) (journal : Journal) : Type 0
  where
    pub sits : SitsAt p b seat
    pub told : told_by (script_of p (session_of w)) journal ≡ journal_of p w
    pub marked : All (IsMarked (script_of p (session_of w))) journal.entries.items
    pub parts : parts_of seat ≡ (session_of w, journal_of p w) ∷ []
    pub seen : seen_at seat ≡ seen_by w

-- one legal placed history in which the lines that the seat has are whole parts, and whose row
-- words begin with what either had seen, and with what the seat has seen
pub record Together (p : PlanOf) (seat a b : Seat) : Type 0 where
  pub lines : List Line
  pub history : IsHistoryOf p lines
  pub parts : HasParts (parts_of seat) lines
  pub first : Begins (words_of p lines) (seen_at a)
  pub second : Begins (words_of p lines) (seen_at b)
  pub seen : Begins (words_of p lines) (seen_at seat)

-- one legal joint order of the lines that the seat has, which has n rows
pub record Closes (p : PlanOf) (s : Seat) (n : ℕ) : Type 0 where
  pub lines : List Line
  pub history : IsHistoryOf p lines
  pub joint : IsJointOrder (naming_of p) (lines_in (parts_of s)) lines
  pub rows : rows_in lines ≡ n

-- one legal joint order of the lines that the seat has, whose words these are: that of the seats,
-- those of the rows, and those of the claims
pub record AreLastWords (p : PlanOf) (parts : List Part) (words : List ℕ) : Type 0 where
  pub lines : List Line
  pub history : IsHistoryOf p lines
  pub joint : IsJointOrder (naming_of p) (lines_in parts) lines
  pub seats : slice_index words 0 ≡ 0
  pub rows : (r : ℕ) → r < rows_of p → slice_index words (r + 1) ≡ slice_index (words_of p lines) r
  pub claims : (t : ℕ) → t < length p.names
      → slice_index words (rows_of p + 1 + t) ≡ claim_word_of (naming_of p) lines t
  pub few : rows_in lines ≤ rows_of p
  pub filled : (r : ℕ) → r < rows_in lines → 0 < slice_index (words_of p lines) r
  pub empty : (r : ℕ) → rows_in lines ≤ r → slice_index (words_of p lines) r ≡ 0
