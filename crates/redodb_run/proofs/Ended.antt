-- A worker at its end has done all that its session does.
use Rattle.std.proofs.Common.{◌≡◌, ℕ, ◌+◌, [], ◌∷◌, refl, sym, ap, ◌∙◌, subst}
use Rattle.redodb_model.specs.Journals.{next_of}
use Rattle.redodb_journal.specs.Plans.{PlanOf, script_of}
use Rattle.redodb_journal.specs.Journals.{naming_of}
use Rattle.redodb_journal.specs.declared.entry.Journal.{Journal}
use Rattle.redodb_board.specs.declared.board.Board.{Board}
use Rattle.redodb_board.specs.declared.seat.Seat.{Seat}
use Rattle.redodb_board.specs.declared.worker.Worker.{Worker}
use Rattle.redodb_board.specs.Shown.{session_of, journal_of, tries_of, rows_up_to, IsAtEnd}
use Rattle.redodb_board.specs.Outcomes.{Leaves}
use Rattle.redodb_run.specs.Support.Sessions.{AreDone}

-- a worker at its end leaves a journal with nothing left to do
pub left_done : (p : PlanOf) (b : Board) (s : ℕ) (w : Worker) (seat : Seat) (journal : Journal)
    → session_of w ≡ s → Leaves p b w seat journal → journal.session ≡ session_of w
    → journal.tries ≡ tries_of w → IsAtEnd p w → tries_of w ≡ rows_up_to 0 (journal_of p w)
    → AreDone p b s (s + 1) seat (journal ∷ [])
left_done p b s w seat journal here leaves session tries none rows =
    subst (λ t. AreDone p b t (t + 1) seat (journal ∷ [])) here (record {
      sits = leaves.sits;
      parts = leaves.parts ∙ ap (λ lines. (session_of w, lines) ∷ []) (sym leaves.told);
      ended = (
        record {
          session = session;
          none = ap (next_of (naming_of p) (script_of p (session_of w))) leaves.told ∙ none;
          marked = leaves.marked;
          tries = tries ∙ rows ∙ ap (rows_up_to 0) (sym leaves.told);
        },
        tt,
      );
      count = refl;
    })
