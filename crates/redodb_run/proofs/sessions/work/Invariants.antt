use Rattle.std.proofs.Common.{◌≡◌, ◌-◌, length}
use Rattle.redodb_model.specs.Support.Room.{room_of}
use Rattle.redodb_journal.specs.Plans.{script_of}
use Rattle.redodb_board.specs.Shown.{session_of, journal_of, tries_of, rows_up_to}
use Rattle.redodb_board.specs.Kept.{WorksAt}
use Rattle.redodb_run.proofs.sessions.work.Given as goal

abbrev pub invariant-loop-worker : goal.invariant-loop-worker
invariant-loop-worker g l = record {
  works : WorksAt l.plan l.board l.worker;
  session : session_of l.worker ≡ session_of l.initial.worker;
  tries : tries_of l.worker ≡ rows_up_to 0 (journal_of l.plan l.worker);
}

abbrev pub decreases-loop-worker : goal.decreases-loop-worker
decreases-loop-worker g l =
    room_of (script_of l.plan (session_of l.worker)) - length (journal_of l.plan l.worker)
