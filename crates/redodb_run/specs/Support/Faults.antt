-- The faults of one file.
use Rattle.std.specs.Prelude.{◌≡◌, ℕ, Bool, List, Option, IfSome, IsTrue, ⊤}
use Rattle.redodb_model.specs.Names.{Text}
use Rattle.redodb_text.specs.declared.fault.Fault.{Fault}
use Rattle.redodb_text.specs.declared.fault.Fault.TheVariants.{Memory, Read, TooLong, Line}
use Rattle.redodb_run.specs.Faults.{HasFaultyLine, AreTooLong}

-- the cause of a fault of one file, which has this number, these bytes and this flag, with the
-- names before it
abbrev pub IsFileCause : List Text → Option Text → Bool → ℕ → Fault → Type 0
IsFileCause names known faulted at Memory = ⊤
IsFileCause names known faulted at (Read file) = (file ≡ at) × IsTrue faulted
IsFileCause names known faulted at (TooLong file) = (file ≡ at) × IfSome known AreTooLong
IsFileCause names known faulted at (Line file line fault) =
    (file ≡ at) × IfSome known (HasFaultyLine names line fault)
IsFileCause names known faulted at fault = ⊥
