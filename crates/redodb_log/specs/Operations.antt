-- What was done to the log and the output of a conversation, and what they hold by it.
use Rattle.std.specs.Prelude.{◌≡◌, ℕ, Bool, true, false, List, [], ◌∷◌, ◌++◌, take}
use Rattle.std.specs.List.{AllByRecursion}
use Rattle.redodb_model.specs.Names.{Text}

-- an operation on the log or on the output, as far as it was done
pub data Operation : Type 0 where
  -- these bytes of the log were read: all, or its first ones if they aren't those of a log
  Read : Text → Operation
  -- these bytes were appended to the log
  Append : Text → Operation
  -- the log was cut to this many bytes
  Cut : ℕ → Operation
  -- the bytes of the log were synced to the disk
  Sync : Operation
  -- a sync failed: the bytes of the log that had not been synced were cut off
  Revert : Operation
  -- the log was copied, and the copy synced, under another name; of a file that had it no byte was changed
  Copy : Operation
  -- these bytes took the place of the log's, all at once, and are on the disk
  Replace : Text → Operation
  -- these bytes were written to the output
  Write : Text → Operation
  -- an operation of the log, or of the output, failed and changed neither
  LogFailed : Operation
  OutputFailed : Operation

-- the bytes of the log that are known to be on the disk, and all that it holds, or that were read of it
pub record Held : Type 0 where
  pub synced : Text
  pub all : Text

-- what the log holds after one operation more
abbrev pub held_then : Operation → Held → Held
held_then (Read bytes) held = record { synced = []; all = bytes }
held_then (Append bytes) held = record held { all = held.all ++ bytes }
held_then (Cut size) held = record { synced = take size held.synced; all = take size held.all }
held_then Sync held = record { synced = held.all; all = held.all }
held_then Revert held = record { synced = held.synced; all = held.synced }
held_then (Replace bytes) held = record { synced = bytes; all = bytes }
held_then other held = held

-- what the log holds after these operations, of which the newest comes first
abbrev pub held_after : List Operation → Held
held_after [] = record { synced = []; all = [] }
held_after (operation ∷ earlier) = held_then operation (held_after earlier)

-- whether the log was read
abbrev pub has_read : List Operation → Bool
has_read [] = false
has_read (Read bytes ∷ earlier) = true
has_read (operation ∷ earlier) = has_read earlier

-- what was written to the output
abbrev pub written_by : List Operation → Text
written_by [] = []
written_by (Write bytes ∷ earlier) = written_by earlier ++ bytes
written_by (operation ∷ earlier) = written_by earlier

-- a beginning of the bytes
abbrev pub IsPrefix : Text → Text → Type 0
IsPrefix prefix bytes = (rest : Text) × (bytes ≡ prefix ++ rest)

-- the operation, or the first part of it
abbrev pub IsPartOf : Operation → Operation → Type 0
IsPartOf part (Append bytes) = (some : Text) × IsPrefix some bytes × (part ≡ Append some)
IsPartOf part (Write bytes) = (some : Text) × IsPrefix some bytes × (part ≡ Write some)
IsPartOf part operation = part ≡ operation

-- P is true at each moment: after each operation, and after each first part of it
abbrev pub IsAlways : (List Operation → Type 0) → List Operation → Type 0
IsAlways P [] = Unit {0}
IsAlways P (operation ∷ earlier) =
    ((part : Operation) → IsPartOf part operation → P (part ∷ earlier)) × IsAlways P earlier

-- a copy of the log
abbrev pub is_copy : Operation → Bool
is_copy Copy = true
is_copy operation = false

-- an operation that failed
abbrev pub is_failure : Operation → Bool
is_failure LogFailed = true
is_failure Revert = true
is_failure OutputFailed = true
is_failure operation = false

-- no operation failed
abbrev pub HasNoFailure : List Operation → Type 0
HasNoFailure done = AllByRecursion (λ operation. is_failure operation ≡ false) done

-- nothing was done after an operation that failed
abbrev pub StopsAtFailure : List Operation → Type 0
StopsAtFailure [] = Unit {0}
StopsAtFailure (newest ∷ earlier) = HasNoFailure earlier

-- an operation of the log that changed nothing
abbrev pub changes_nothing : Operation → Bool
changes_nothing (Read bytes) = true
changes_nothing Copy = true
changes_nothing LogFailed = true
changes_nothing operation = false
