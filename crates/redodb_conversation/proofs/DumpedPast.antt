-- A dump of what a log's lines left takes their place.
use Rattle.std.proofs.Common.{◌≡◌, ℕ, ◌<◌, List, ◌++◌, Some, refl, sym, ◌∙◌, subst}
use Rattle.std.specs.Prelude.{IfSome, None, Option}
use Rattle.redodb_model.specs.Names.{Text, texts}
use Rattle.redodb_model.specs.State.{empty}
use Rattle.redodb_model.specs.History.{Line, left_by}
use Rattle.redodb_live.specs.Support.LiveState.{LiveState, state_in}
use Rattle.redodb_dump.specs.Dumps.{HasSessions, IsStateOver, dump_of}
use Rattle.redodb_log.specs.Logs.{dump_header, head_of, AreLogged, IsPast}
use Rattle.redodb_keeping.specs.Support.Steps.{LeadsTo, known_of}
use Rattle.redodb_keeping.proofs.EndedAll.{holder_below}

-- only sessions that a log can have hold something after its lines
pub has_sessions : (lines : List (Line Text)) → AreLogged lines
    → HasSessions (left_by texts empty lines)
has_sessions lines logged t =
    by ((left_by texts empty lines).locks.holder t) (holder_below lines logged t)
  where
    by : (o : Option ℕ) → ((s : ℕ) → o ≡ Some s → s < 65535) → IfSome o (λ s. s < 65535)
    by None below = tt
    by (Some s) below = below s refl

-- a dump of what these lines left takes their place
pub dump_is : (live : LiveState) (log : Text)
    → log ≡ dump_header ++ dump_of live.names (state_in live)
    → (HasSessions (state_in live) → IsStateOver live.names (state_in live))
    → (before : List (Line Text)) → AreLogged before → LeadsTo before (known_of live)
    → IsPast (Some before) × (log ≡ head_of (Some before))
dump_is live log e over before logged left = (
  record {
    logged = logged;
    dumped = subst (λ (ns : List Text). IsStateOver ns (left_by texts empty before)) left.names_are
        (subst (IsStateOver live.names) left.state_is
        (over (subst HasSessions (sym left.state_is) (has_sessions before logged))));
  },
  e ∙ (λ i. dump_header ++ dump_of (left.names_are i) (left.state_is i)),
)
