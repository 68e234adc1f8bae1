-- What is done again of a log, and how the sessions end that it left.
use Rattle.std.specs.Prelude.{◌≡◌, ◌⊎◌, ◌↔◌, ℕ, ◌+◌, Bool, false, Contains, List, [], ◌++◌, Some, None, IsTrue, map, codes, decimal}
use Rattle.std.specs.List.Sorted.{IsStrictlyIncreasing}
use Rattle.redodb_model.specs.Names.{Text, texts}
use Rattle.redodb_model.specs.State.{State, empty, is_building, target_state}
use Rattle.redodb_model.specs.History.{Line, left_by}
use Rattle.redodb_log.specs.Logs.{Past, IsLogOf, IsTornHeader}
use Rattle.redodb_log.specs.Restores.{IsDamagedAfter}
use Rattle.redodb_keeping.specs.Rounds.{Round, AreEnds, end_word, lines_in}

-- these are the lines of the log: it is whole but for a last line without LF, or it has not even a header; or it is
-- damaged after them, and may be cut
abbrev pub AreRestored : Bool → Past → Text → List (Line Text) → Type 0
AreRestored salvage past bytes lines =
    ((torn : Text) × IsLogOf past bytes lines torn)
    ⊎ ((IsTornHeader bytes × (past ≡ None) × (lines ≡ []))
    ⊎ (IsTrue salvage × IsDamagedAfter past bytes lines))

-- no target is locked, and none is building
abbrev pub HoldsNothing : State Text → Type 0
HoldsNothing state =
    (t : Text) → (state.locks.holder t ≡ None)
    × (is_building (target_state state.records t) ≡ false)

-- after this history these sessions, all that held something, ended in the order of their numbers, and nothing is held
-- then
pub record AreEnded (found : List (Line Text)) (ends : List Round) : Type 0 where
  pub sessions : List ℕ
  pub holders : (s : ℕ) → Contains sessions s
      ↔ ((t : Text) × ((left_by texts empty found).locks.holder t ≡ Some s))
  pub ascending : IsStrictlyIncreasing sessions
  pub asked : map (λ round. round.received) ends
      ≡ map (λ s. decimal (s + 1) ++ codes " " ++ end_word) sessions
  pub are_ends : AreEnds found ends
  pub nothing : HoldsNothing (left_by texts empty (found ++ lines_in ends))
