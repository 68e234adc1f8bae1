-- What was done when what waits was sent, or could not be; and what becomes of a fault's line.
use Rattle.std.specs.Prelude.{◌≡◌, ◌⊎◌, ℕ, ◌+◌, Bool, cond, List, [], ◌∷◌, ◌++◌, IsTrue, codes}
use Rattle.redodb_model.specs.Names.{Text}
use Rattle.redodb_text.specs.Faults.{fault_word_of}
use Rattle.redodb_live.specs.declared.fault.Unanswered.{Unanswered}
use Rattle.redodb_live.specs.declared.fault.Unanswered.TheVariants.{Memory, Worn, Fault}
use Rattle.redodb_log.specs.Operations.{Operation, Append, Sync, Revert, Write, LogFailed, OutputFailed, IsPrefix}
use Rattle.redodb_keeping.specs.Rounds.{Asks, HasNoSession}
use Rattle.redodb_keeping.specs.Failures.{log_failed, output_failed}
use Rattle.redodb_keeping.specs.declared.fault.ServeFault.{ServeFault}
use Rattle.redodb_keeping.specs.declared.fault.ServeFault.TheVariants as faults

-- the word of the cause why a session was not answered
abbrev pub refusal_word_of : Unanswered → Text
refusal_word_of Memory = codes "memory"
refusal_word_of Worn = codes "worn"
refusal_word_of (Fault fault) = fault_word_of fault

-- the fault of a line for whose answer memory ran out: its session's, or that it has none
abbrev pub IsMemoryFor : Text → ℕ → Text → Type 0
IsMemoryFor line number word =
    (HasNoSession line × (number ≡ 0) × (word ≡ codes "bad-session"))
    ⊎ ((s : ℕ) × (text : Text) × Asks line s text × (number ≡ s + 1) × (word ≡ codes "memory"))

-- more was done, or nothing
abbrev pub IsFollowedBy : List Operation → List Operation → Type 0
IsFollowedBy done done_after = (later : List Operation) × (done_after ≡ later ++ done)

-- after the bytes were appended, and synced if that is asked
abbrev pub after_logging : Bool → Text → List Operation → List Operation
after_logging sync logged done =
    cond sync (Sync ∷ Append logged ∷ done) (Append logged ∷ done)

-- and then these were written
abbrev pub sent_after : Bool → Text → Text → List Operation → List Operation
sent_after sync logged output done = Write output ∷ after_logging sync logged done

-- an append failed
abbrev pub IsAppendedInPart : Text → List Operation → List Operation → Type 0
IsAppendedInPart logged done done_after =
    (part : Text) × IsPrefix part logged × (done_after ≡ LogFailed ∷ Append part ∷ done)

-- a sync failed
abbrev pub IsUnsynced : Text → List Operation → List Operation → Type 0
IsUnsynced logged done done_after =
    (done_after ≡ LogFailed ∷ Append logged ∷ done) ⊎ (done_after ≡ Revert ∷ Append logged ∷ done)

-- a write failed
abbrev pub IsWrittenInPart : Text → List Operation → List Operation → Type 0
IsWrittenInPart output done done_after =
    (part : Text) × IsPrefix part output × (done_after ≡ OutputFailed ∷ Write part ∷ done)

-- an operation failed, and none was tried after it
abbrev pub IsSentInPart : Bool → Text → Text → List Operation → List Operation → Type 0
IsSentInPart sync logged output done done_after =
    IsAppendedInPart logged done done_after
    ⊎ ((IsTrue sync × IsUnsynced logged done done_after)
    ⊎ IsWrittenInPart output (after_logging sync logged done) done_after)

-- the same, where a text comes after what waits
abbrev pub IsFaultSentInPart : Bool → Text → Text → Text → List Operation → List Operation → Type 0
IsFaultSentInPart sync logged output text done done_after =
    IsSentInPart sync logged output done done_after
    ⊎ IsSentInPart sync [] text (sent_after sync logged output done) done_after

-- the fault is of the device whose operation was the last
abbrev pub IsSendCause : List Operation → ServeFault → Type 0
IsSendCause done (faults.Log fault) = IsTrue (log_failed done)
IsSendCause done faults.Write = IsTrue (output_failed done)
IsSendCause done fault = ⊥

-- the text waits after what waited
pub record IsKeptBack (done done_after : List Operation)
    (logged logged_after output output_after text : Text) : Type 0 where
  pub same : done_after ≡ done
  pub logged_same : logged_after ≡ logged
  pub output_more : output_after ≡ output ++ text

-- what waited was sent, and then the text
pub record IsSent (sync : Bool) (done done_after : List Operation)
    (logged logged_after output output_after text : Text) : Type 0 where
  pub sent : done_after ≡ sent_after sync [] text (sent_after sync logged output done)
  pub none_logged : logged_after ≡ []
  pub none_output : output_after ≡ []
