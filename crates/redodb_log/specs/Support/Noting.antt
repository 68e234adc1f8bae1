-- How an operation is noted: by its kind, a size and bytes.
use Rattle.std.specs.Prelude.{◌≡◌, ◌==◌, ℕ, List, [], slice_index, if◌then◌else◌, refl}
use Rattle.std.specs.Coded.{Coded, code_by, coded×, coded_ℕ, coded_list}
use Rattle.redodb_model.specs.Names.{Text}
use Rattle.redodb_log.specs.Operations.{Operation, Read, Append, Cut, Sync, Revert, Copy, Replace, Write, LogFailed, OutputFailed}

-- what is noted of an operation
abbrev pub Note : Type 0
Note = ℕ × (ℕ × Text)

abbrev pub note_of : Operation → Note
note_of (Read bytes) = (0, (0, bytes))
note_of (Append bytes) = (1, (0, bytes))
note_of (Cut size) = (2, (size, []))
note_of Sync = (3, (0, []))
note_of Revert = (4, (0, []))
note_of Copy = (5, (0, []))
note_of (Write bytes) = (6, (0, bytes))
note_of LogFailed = (7, (0, []))
note_of OutputFailed = (8, (0, []))
note_of (Replace bytes) = (9, (0, bytes))

-- the operation of a note
abbrev pub operation_of : Note → Operation
operation_of (kind, (size, bytes)) =
    if kind == 0 then Read bytes
    else if kind == 1 then Append bytes
    else if kind == 2 then Cut size
    else if kind == 3 then Sync
    else if kind == 4 then Revert
    else if kind == 5 then Copy
    else if kind == 6 then Write bytes
    else if kind == 7 then LogFailed
    else if kind == 8 then OutputFailed
    else Replace bytes

-- an operation is that of its note
pub operation_of-note_of : (operation : Operation) → operation_of (note_of operation) ≡ operation
operation_of-note_of (Read bytes) = refl
operation_of-note_of operation = refl

-- the logic stores an operation as its note
abbrev pub operation_code : Coded Operation
operation_code =
    code_by Note (coded× coded_ℕ (coded× coded_ℕ (coded_list coded_ℕ)))
    note_of operation_of operation_of-note_of

-- the operation of a kind, with a size, and bytes
abbrev pub noted : List ℕ → Text → Operation
noted numbers bytes = operation_of (slice_index numbers 0, (slice_index numbers 1, bytes))
