-- What a memo says of the names.
use Rattle.std.specs.Prelude.{◌↔◌, ℕ, Bool, false, List, IsTrue, slice_index_or, length}
use Rattle.redodb_model.specs.State.{Records}
use Rattle.redodb_model.specs.OutOfDate.{OutOfDate}
use Rattle.redodb_model.specs.Support.OutOfDate.{DifferAt}

-- how many names there are
abbrev pub memo_count : List Bool → ℕ
memo_count memo = length memo

-- whether the memo has the name as out of date
abbrev pub is_out : List Bool → ℕ → Bool
is_out memo t = slice_index_or memo t false

-- the memo has exactly the targets that are out of date
abbrev pub IsRight : List Bool → Records ℕ → Type 0
IsRight memo records = (t : ℕ) → IsTrue (is_out memo t) ↔ OutOfDate records t

-- the memo was right in some state that differs from this one only in the seeds' cells and rows
abbrev pub WasRight : List ℕ → List Bool → Records ℕ → Type 0
WasRight seeds memo records =
    (old : Records ℕ) × DifferAt seeds old records × IsRight memo old
