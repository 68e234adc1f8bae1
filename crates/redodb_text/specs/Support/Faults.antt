-- The fault of a line that is read alone, and that of a session file.
use Rattle.std.specs.Prelude.{◌≡◌, ◌⊎◌, List, ◌++◌, drop, length, Some, ⊤, ℕ}
use Rattle.redodb_model.specs.Names.{Text}
use Rattle.redodb_text.specs.declared.fault.ReadFault.{ReadFault}
use Rattle.redodb_text.specs.declared.fault.ReadFault.TheVariants as faults
use Rattle.redodb_text.specs.declared.fault.LineFault.TheVariants.{TooManyNames}
use Rattle.redodb_text.specs.Grammar.{with_names}
use Rattle.redodb_text.specs.Questions.{line_fault, words_of}
use Rattle.redodb_text.specs.Faults.{IsFirstFault}

-- the fault of a line that is read alone, which counts as line 1; `Memory` says nothing of the line
abbrev pub IsLineFault : ℕ → List Text → Text → ReadFault → Type 0
IsLineFault most names line faults.Memory = ⊤
IsLineFault most names line (faults.Line number fault) =
    (number ≡ 1) × (line_fault most names line ≡ Some fault)

-- the fault of a session file; `Memory` says nothing of the text
abbrev pub IsReadFault : List Text → Text → ReadFault → Type 0
IsReadFault names text faults.Memory = ⊤
IsReadFault names text (faults.Line number fault) = IsFirstFault names text number fault

-- after are the names, and after them the new ones of the first of these words
pub record AddsPrefix (names words after : List Text) : Type 0 where
  pub own : List Text
  pub rest : List Text
  pub words_are : words ≡ own ++ rest
  pub adds : after ≡ with_names names own

-- the names after an error of a line: the names before it; if its own are too many, these, or as
-- many of its names added as fit; after `Memory` some of its names may be added
abbrev pub LeavesNames : ℕ → List Text → Text → List Text → ReadFault → Type 0
LeavesNames most names line after faults.Memory = AddsPrefix names (drop 1 (words_of line)) after
LeavesNames most names line after (faults.Line number TooManyNames) =
    (after ≡ names) ⊎ (AddsPrefix names (drop 1 (words_of line)) after × (length after ≡ most))
LeavesNames most names line after (faults.Line number fault) = after ≡ names
