-- The values of boards, seats and workers.
use Rattle.std.specs.Prelude.{◌≡◌, ◌≢◌, ℕ, ◌+◌, ◌<◌, ◌==◌, cond, List, [], ◌∷◌, ◌++◌, length, Option, Some, None}
use Rattle.std.specs.Borrow.{Bor}
use Rattle.redodb_model.specs.Command.{Item}
use Rattle.redodb_model.specs.Placed.{Place, Row, Granted, Busy, Released}
use Rattle.redodb_model.specs.Journals.{Numbered}
use Rattle.redodb_journal.specs.Plans.{PlanOf, script_of}
use Rattle.redodb_journal.specs.Journals.{lines_told}
use Rattle.redodb_journal.specs.declared.entry.Entry.{Entry}
use Rattle.redodb_board.specs.declared.board.Board.{Board}
use Rattle.redodb_board.specs.declared.seat.Seat.{Seat}
use Rattle.redodb_board.specs.declared.worker.Worker.{Worker}
use Rattle.redodb_board.specs.Core.{Line, row}
use Rattle.redodb_board.specs.Views.{Part}
use Rattle.redodb_board.specs.Rule.{HasPart}
use Rattle.redodb_board.specs.Plays.{next, own_way}

-- the plan of a board
abbrev pub plan_of : Board → PlanOf
plan_of board = board.table.shared.key

-- the sessions of a fresh seat: from this one on, and below that one
abbrev pub first_of : Seat → ℕ
first_of seat = seat.first

abbrev pub end_of : Seat → ℕ
end_of seat = seat.end

-- the sessions of a seat, each with its lines so far
abbrev pub parts_of : Seat → List Part
parts_of seat = seat.seat.me.0.parts

-- the row words that a seat has seen
abbrev pub seen_at : Seat → List ℕ
seen_at seat = seat.seat.me.0.seen

-- the seat has the session
abbrev pub HasSession : ℕ → Seat → Type 0
HasSession t s = (own : List Line) × HasPart (parts_of s) t own

-- the seat has each session of the plan
abbrev pub IsForAll : PlanOf → Seat → Type 0
IsForAll p s = (t : ℕ) → t < length p.scripts → HasSession t s

-- the lines of a session; none if it isn't there
abbrev pub lines_in : List Part → ℕ → List Line
lines_in [] s = []
lines_in (part ∷ parts) s =
    cond (part.0 == s) part.1 (lines_in parts s)

abbrev pub session_of : Worker → ℕ
session_of worker = worker.session

-- the lines of the entries of a session with this script
abbrev pub told : ℕ → List (Item ℕ) → List Entry → List Line
told s script entries = lines_told s script entries

-- the lines of a worker's entries
abbrev pub journal_of : PlanOf → Worker → List Line
journal_of p worker = told worker.session (script_of p worker.session) worker.entries.items

abbrev pub entries_of : Worker → List Entry
entries_of worker = worker.entries.items

-- the row words that a worker has seen
abbrev pub seen_by : Worker → List ℕ
seen_by worker = worker.seat.me.0.seen

-- how many exchanges on rows a worker tried
abbrev pub tries_of : Worker → ℕ
tries_of worker = worker.tries

abbrev pub past : Place ℕ → ℕ → ℕ
past (Row r) n = r + 1
past (Granted t g) n = n
past (Busy t g) n = n
past (Released t g) n = n

-- one more than the latest row among the lines, or n if there is none
abbrev pub rows_up_to : ℕ → List Line → ℕ
rows_up_to n [] = n
rows_up_to n (line ∷ lines) = rows_up_to (past line.place n) lines

-- what the session does next
abbrev pub next_by : PlanOf → Worker → Option (Numbered ℕ)
next_by p w = next p w.session (journal_of p w)

-- the session has done all that it does
abbrev pub IsAtEnd : PlanOf → Worker → Type 0
IsAtEnd p w = next_by p w ≡ None

-- what the session does next, if anything, is on a claim word: a lock, or an unlock of a target
-- that it holds and doesn't build, by its own lines
abbrev pub NeedsNoRow : PlanOf → Worker → Type 0
NeedsNoRow p w =
    (n : Numbered ℕ) → next_by p w ≡ Some n → own_way (journal_of p w) n.command ≢ row

abbrev pub IsLast : List Entry → Option (Bor Entry) → Type 0
IsLast entries None = entries ≡ []
IsLast entries (Some entry) = (before : List Entry) × (entries ≡ before ++ entry.now ∷ [])
