-- Why a run is refused: each fault with its cause.
use Rattle.std.specs.Prelude.{◌≡◌, ℕ, ◌<◌, ◌≤◌, Bool, List, [], length, take, Option, None, IfSome, IsTrue, slice_index_or, ⊤}
use Rattle.redodb_model.specs.Names.{Text}
use Rattle.redodb_model.specs.Command.{Item}
use Rattle.redodb_text.specs.Faults.{IsFirstFault}
use Rattle.redodb_run.specs.Files.{AreAccepted, AreSessions}
use Rattle.redodb_text.specs.declared.fault.LineFault.{LineFault}
use Rattle.redodb_text.specs.declared.fault.Fault.{Fault}
use Rattle.redodb_text.specs.declared.fault.Fault.TheVariants.{Memory, Read, TooLong, Line, NoSession, TooManySessions, Write}

-- the files before this one are accepted, and leave these names
abbrev pub FilesBefore : List (Option Text) → ℕ → List Text → Type 0
FilesBefore files file names =
    (file < length files)
    × ((scripts : List (List (Item Text))) × AreAccepted [] (take file files) scripts names)

-- a file's bytes are not too long, and this is the first fault in their lines
abbrev pub HasFaultyLine : List Text → ℕ → LineFault → Text → Type 0
HasFaultyLine names line fault bytes =
    (length bytes ≤ 67108864) × IsFirstFault names bytes line fault

abbrev pub AreTooLong : Text → Type 0
AreTooLong bytes = 67108864 < length bytes

-- the cause of a run's fault: `files` are the files' bytes, if they are known, `failed` says which
-- files had a failed read, and `out_failed` whether a write failed
abbrev pub IsRunCause : List (Option Text) → (ℕ → Bool) → Bool → Fault → Type 0
IsRunCause files failed out_failed Memory = ⊤
IsRunCause files failed out_failed (Read file) =
    (names : List Text) × FilesBefore files file names × IsTrue (failed file)
IsRunCause files failed out_failed (TooLong file) =
    (names : List Text) × FilesBefore files file names
    × IfSome (slice_index_or files file None) AreTooLong
IsRunCause files failed out_failed (Line file line fault) =
    (names : List Text) × FilesBefore files file names
    × IfSome (slice_index_or files file None) (HasFaultyLine names line fault)
IsRunCause files failed out_failed NoSession = files ≡ []
IsRunCause files failed out_failed TooManySessions =
    (64 < length files)
    × ((scripts : List (List (Item Text))) × (names : List Text)
    × AreAccepted [] files scripts names)
IsRunCause files failed out_failed Write =
    ((scripts : List (List (Item Text))) × AreSessions files scripts) × IsTrue out_failed
IsRunCause files failed out_failed fault = ⊥
