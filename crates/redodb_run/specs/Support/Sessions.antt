-- Sessions of a plan, one after the other: before they begin, and when they have done all.
use Rattle.std.specs.Prelude.{◌≡◌, ℕ, ◌+◌, ◌<◌, ◌≤◌, List, [], ◌∷◌, length, None, All}
use Rattle.redodb_model.specs.Journals.{next_of}
use Rattle.redodb_journal.specs.Plans.{PlanOf, script_of}
use Rattle.redodb_journal.specs.Journals.{told_by, naming_of, IsMarked}
use Rattle.redodb_journal.specs.declared.entry.Journal.{Journal}
use Rattle.redodb_board.specs.declared.board.Board.{Board}
use Rattle.redodb_board.specs.declared.seat.Seat.{Seat}
use Rattle.redodb_board.specs.Views.{Part}
use Rattle.redodb_board.specs.Shown.{parts_of, rows_up_to}
use Rattle.redodb_board.specs.Kept.{SitsAt, IsFreshOf}
use Rattle.redodb_run.specs.declared.sessions.Sessions.{Sessions}

-- some sessions of the plan, with a fresh seat at the board
pub record AreReady (p : PlanOf) (b : Board) (s : Sessions) : Type 0 where
  pub sits : SitsAt p b s.seat
  pub fresh : IsFreshOf s.first s.end s.seat
  pub some : s.first < s.end
  pub within : s.end ≤ length p.scripts

-- the lines of the journals of the sessions from s on
abbrev pub parts_told : PlanOf → ℕ → List Journal → List Part
parts_told p s [] = []
parts_told p s (journal ∷ journals) =
    (s, told_by (script_of p s) journal) ∷ parts_told p (s + 1) journals

-- the session's journal, with nothing left to do, its closing commands marked, and the rows that it
-- tried
pub record IsEnded (p : PlanOf) (s : ℕ) (journal : Journal) : Type 0 where
  pub session : journal.session ≡ s
  pub none : next_of (naming_of p) (script_of p s) (told_by (script_of p s) journal) ≡ None
  pub marked : All (IsMarked (script_of p s)) journal.entries.items
  pub tries : journal.tries ≡ rows_up_to 0 (told_by (script_of p s) journal)

-- the journals of the sessions from s on
abbrev pub AllEnded : PlanOf → ℕ → List Journal → Type 0
AllEnded p s [] = Unit {0}
AllEnded p s (journal ∷ journals) = IsEnded p s journal × AllEnded p (s + 1) journals

-- the sessions from this one on and below that one have nothing left to do, and their seat has the
-- lines of their journals
pub record AreDone (p : PlanOf) (b : Board) (first end : ℕ) (seat : Seat)
    (journals : List Journal) : Type 0 where
  pub sits : SitsAt p b seat
  pub parts : parts_of seat ≡ parts_told p first journals
  pub ended : AllEnded p first journals
  pub count : first + length journals ≡ end
