-- What of a log is kept, and what was done to it then.
use Rattle.std.specs.Prelude.{◌≡◌, ◌⊎◌, ℕ, ◌≤◌, None, Bool, false, List, [], ◌∷◌, ◌++◌, length, take, ⊤}
use Rattle.redodb_model.specs.Names.{Text}
use Rattle.redodb_model.specs.History.{Line}
use Rattle.redodb_live.specs.Lines.{lines_text_of}
use Rattle.redodb_live.specs.Support.LiveState.{LiveState}
use Rattle.redodb_log.specs.Logs.{Past, past_lines, head_of, AreLogged, HasPast}
use Rattle.redodb_log.specs.Operations.{Operation, Cut, Sync, Copy, LogFailed}
use Rattle.redodb_log.specs.Restores.{DiffersAt, HasTooMany, IsDamagedAfter}
use Rattle.redodb_log.specs.declared.devices.Unread.{Unread as NotRead}
use Rattle.redodb_log.specs.declared.devices.Unread.TheVariants as reads
use Rattle.redodb_log.specs.declared.restoring.RestoreFault.{RestoreFault}
use Rattle.redodb_log.specs.declared.restoring.RestoreFault.TheVariants as restores
use Rattle.redodb_keeping.specs.Rounds.{Round, AreEnds, lines_in}
use Rattle.redodb_keeping.specs.Openings.{AreRestored, AreEnded}
use Rattle.redodb_keeping.specs.Support.Steps.{LeadsTo, known_of}
use Rattle.redodb_keeping.specs.declared.fault.ServeFault.{ServeFault}
use Rattle.redodb_keeping.specs.declared.fault.ServeFault.TheVariants.{Memory, Worn, State, Differs, Log}
use Rattle.redodb_keeping.specs.declared.restoring.Kept.{Kept}
use Rattle.redodb_keeping.specs.declared.restoring.Rest.{Rest}
use Rattle.redodb_keeping.specs.declared.restoring.Rest.TheVariants.{Nothing, Torn, Damaged}

abbrev pub unread : NotRead → ServeFault
unread reads.Memory = Memory
unread (reads.Fault fault) = Log fault

abbrev pub unrestored : RestoreFault → ServeFault
unrestored restores.Memory = Memory
unrestored restores.Worn = Worn
unrestored (restores.State line) = State line
unrestored (restores.Differs line count size) = Differs line

-- after these lines sessions ended, and the lines of that were appended
pub record EndsSome (before : List (Line Text)) (live : LiveState) (logged logged_after : Text)
    : Type 0 where
  pub ends : List Round
  pub are_ends : AreEnds before ends
  pub left : LeadsTo (before ++ lines_in ends) (known_of live)
  pub logged_lines : AreLogged (before ++ lines_in ends)
  pub logs : logged_after ≡ logged ++ lines_text_of (lines_in ends)

-- these are all sessions that held something
pub record EndsAll (before : List (Line Text)) (live : LiveState) (logged logged_after : Text)
    : Type 0 where
  pub some : EndsSome before live logged logged_after
  pub ended : AreEnded before some.ends

module _ (past : Past) where
  -- what comes after the first bytes of a log, which are kept
  abbrev pub IsRest : Rest → Text → Text → List (Line Text) → Type 0
  IsRest Nothing bytes kept lines = (kept ≡ bytes) × ¬ (IsDamagedAfter past bytes lines)
  IsRest Torn bytes kept lines = ¬ (IsDamagedAfter past bytes lines)
  IsRest Damaged bytes kept lines = IsDamagedAfter past bytes lines

  -- these first bytes of a log are what it begins with and the lines; or it has no header, and none are kept
  abbrev pub AreKept : Text → ℕ → List (Line Text) → Type 0
  AreKept bytes size lines =
      (take size bytes ≡ head_of past ++ lines_text_of lines)
      ⊎ ((size ≡ 0) × (past ≡ None) × (lines ≡ []))

-- the lines of a log with these bytes were done again
pub record IsKeptFrom (salvage : Bool) (past : Past) (bytes : Text) (kept : Kept) : Type 0 where
  pub lines : List (Line Text)
  pub logged : AreLogged (past_lines past ++ lines)
  pub restored : AreRestored salvage past bytes lines
  pub left : LeadsTo (past_lines past ++ lines) (known_of kept.restored.live)
  pub within : kept.restored.bytes ≤ length bytes
  pub count : kept.restored.lines ≡ length lines
  pub are_kept : AreKept past bytes kept.restored.bytes lines
  pub rest : IsRest past kept.rest bytes (take kept.restored.bytes bytes) lines

-- this is so of each past that the bytes have
abbrev pub OfEachPast : Text → (Past → Type 0) → Type 0
OfEachPast bytes is_so = (past : Past) → HasPast past bytes → is_so past

-- why a log with these bytes was not opened
abbrev pub IsOpenCause : Bool → Text → ServeFault → Type 0
IsOpenCause salvage bytes Memory = ⊤
IsOpenCause salvage bytes Worn = OfEachPast bytes (λ past. HasTooMany past bytes)
IsOpenCause salvage bytes (State line) = OfEachPast bytes (λ past. ⊥)
IsOpenCause salvage bytes (Differs line) =
    OfEachPast bytes (λ past. (salvage ≡ false)
    × ((count : ℕ) × (size : ℕ) × DiffersAt past bytes line count size))
IsOpenCause salvage bytes fault = ⊥

-- after what comes after so many bytes was cut off; a damaged log is copied first, and synced then
abbrev pub after_cut : Rest → ℕ → List Operation → List Operation
after_cut Nothing size done = done
after_cut Torn size done = Cut size ∷ done
after_cut Damaged size done = Sync ∷ Cut size ∷ Copy ∷ done

-- the first operation failed; or a damaged log was copied, and its cut failed, or the sync after that
abbrev pub IsCutInPart : Rest → ℕ → List Operation → List Operation → Type 0
IsCutInPart rest size done done_after =
    (done_after ≡ LogFailed ∷ done) ⊎ ((rest ≡ Damaged)
    × ((done_after ≡ LogFailed ∷ Copy ∷ done)
    ⊎ (done_after ≡ LogFailed ∷ Cut size ∷ Copy ∷ done)))
