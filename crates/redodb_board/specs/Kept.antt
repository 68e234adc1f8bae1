-- What fits together, and the invariants of boards, seats and workers.
use Rattle.std.specs.Prelude.{◌≡◌, ℕ, ◌+◌, ◌-◌, ◌<◌, ◌≤◌, List, [], ◌∷◌, ◌++◌, length, map, All, Option, MatchOption, vec_capacity}
use Rattle.redodb_model.specs.Placed.{line_of}
use Rattle.redodb_model.specs.Support.Room.{room_of}
use Rattle.redodb_graph.specs.Graphs.{IsGraphOf}
use Rattle.redodb_replica.specs.Replicas.{ReplicaOf, records_of, count_of}
use Rattle.redodb_journal.specs.Plans.{PlanOf, IsPlan, script_of}
use Rattle.redodb_journal.specs.Holds.{Says}
use Rattle.redodb_journal.specs.Journals.{IsMarked}
use Rattle.redodb_board.specs.declared.board.Board.{Board}
use Rattle.redodb_board.specs.declared.seat.Seat.{Seat}
use Rattle.redodb_board.specs.declared.worker.Worker.{Worker}
use Rattle.redodb_board.specs.Rows.{rows_of}
use Rattle.redodb_board.specs.Core.{replay}
use Rattle.redodb_board.specs.Views.{ViewOf, view}
use Rattle.redodb_board.specs.Rule.{Told, range}
use Rattle.redodb_board.specs.Shown.{plan_of, first_of, end_of, journal_of, entries_of, seen_by, rows_up_to, NeedsNoRow}

-- the plan's graph, and the words of a board: one for the seats, one for each row, one for each name
pub record IsBoardOf (p : PlanOf) (b : Board) : Type 0 where
  pub key : plan_of b ≡ p
  pub plan : IsPlan p
  pub rows : b.rows ≡ rows_of p
  pub words : b.table.shared.table_id.words ≡ rows_of p + 1 + length p.names
  pub slots : b.table.shared.table_id.slots ≡ 0
  pub graph : IsGraphOf p b.graph

-- a seat that knows this plan
pub record IsSeatOf (p : PlanOf) (s : Seat) : Type 0 where
  pub plan : s.seat.me.0.plan ≡ p
  pub slots : s.seat.me.1 ≡ []

-- a seat at this board
pub record SitsAt (p : PlanOf) (b : Board) (s : Seat) : Type 0 where
  pub table : s.seat.table_id ≡ b.table.shared.table_id
  pub seat : IsSeatOf p s

-- a seat whose sessions have no worker yet
pub record IsFresh (s : Seat) : Type 0 where
  pub ordered : first_of s ≤ end_of s
  pub view : s.seat.me.0 ≡ view s.seat.me.0.plan (range s.first (s.end - s.first)) [] []

-- a fresh seat of the sessions from this one on, and below that one
pub record IsFreshOf (from below : ℕ) (s : Seat) : Type 0 where
  pub fresh : IsFresh s
  pub first : first_of s ≡ from
  pub end : end_of s ≡ below

-- the replica, on the plan's graph, is the replay of the row words that were seen, or of all but the
-- last, which is pending
pub record Lags (p : PlanOf) (replica : ReplicaOf) (pending : Option ℕ) (seen : List ℕ) :
    Type 0 where
  pub words : List ℕ
  pub behind : MatchOption pending (seen ≡ words) (λ word. seen ≡ words ++ word ∷ [])
  pub records : records_of replica ≡ replay p words
  pub applied : replica.applied ≡ length words
  pub count : count_of replica ≡ length p.names
  pub graph : IsGraphOf p replica.graph

-- what the worker knows
abbrev pub view_of : Worker → ViewOf
view_of w = w.seat.me.0

-- the invariant of a worker
pub record Works (p : PlanOf) (w : Worker) : Type 0 where
  pub view : view_of w ≡ view p ((w.session, journal_of p w) ∷ []) (seen_by w) (view_of w).also
  pub slots : w.seat.me.1 ≡ []
  pub session : w.session < length p.scripts
  pub room : room_of (script_of p w.session) ≤ vec_capacity w.entries
  pub tries : w.tries ≡ length (seen_by w)
  pub own : Says p.names w.own (map line_of (journal_of p w))
  pub marked : All (IsMarked (script_of p w.session)) (entries_of w)
  pub told : Told (view_of w)
  pub lags : Lags p w.replica w.pending (seen_by w)
  pub spent : NeedsNoRow p w → w.tries ≡ rows_up_to 0 (journal_of p w)

-- a worker at this board
pub record WorksAt (p : PlanOf) (b : Board) (w : Worker) : Type 0 where
  pub table : w.seat.table_id ≡ b.table.shared.table_id
  pub works : Works p w
