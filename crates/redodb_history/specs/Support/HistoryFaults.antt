-- Why a line is not read as one of a history.
use Rattle.std.specs.Prelude.{◌≡◌, ℕ, List, ◌∷◌, ◌++◌, Contains, ⊤}
use Rattle.redodb_model.specs.Names.{Text}
use Rattle.redodb_history.specs.declared.fault.HistoryFault.{HistoryFault}
use Rattle.redodb_history.specs.declared.fault.HistoryFault.TheVariants.{Memory, BadSession, BadLine, BadReply}
use Rattle.redodb_history.specs.HistoryFaults.{HasBadSession, HasBadReply, HasBadCommand}

-- the part before the first such byte, and the part after it
abbrev pub IsCutAt : ℕ → Text → Text → Text → Type 0
IsCutAt byte text prefix rest = (text ≡ prefix ++ byte ∷ rest) × ¬ (Contains prefix byte)

-- the cause of the fault of the line of this number, if the lines before have these names
abbrev pub IsLineCause : List Text → ℕ → Text → HistoryFault → Type 0
IsLineCause names number line Memory = ⊤
IsLineCause names number line (BadSession at) = (at ≡ number) × HasBadSession line
IsLineCause names number line (BadLine at fault) = (at ≡ number) × HasBadCommand names line fault
IsLineCause names number line (BadReply at) = (at ≡ number) × HasBadReply names line
IsLineCause names number line fault = ⊥
