-- The lines on standard error that say why the program failed.
use Rattle.std.specs.Prelude.{ℕ, List, ◌++◌, Option, Some, None, Result, Ok, Err, slice_get, codes, decimal, string_bytes, String}
use Rattle.std.specs.declared.alloc.Global.{Global}
use Rattle.redodb_text.specs.Faults.{fault_word_of}
use Rattle.redodb_text.specs.declared.fault.Fault.{Fault}
use Rattle.redodb_text.specs.declared.fault.Fault.TheVariants.{Memory, Usage, CannotOpen, Read, TooLong, Line, BadHeader, Cut, BadSession, BadReply, NoSession, TooManySessions, Write}
use Rattle.redodb_history.specs.declared.verdict.Verdict.{Verdict}
use Rattle.redodb_history.specs.declared.verdict.Verdict.TheVariants.{Same, Differs}

-- "-" means standard input
abbrev pub name_or_dash : Option (String Global) → List ℕ
name_or_dash None = codes "-"
name_or_dash (Some name) = string_bytes name

abbrev pub file_name : List (String Global) → ℕ → List ℕ
file_name files file = name_or_dash (slice_get files file)

abbrev pub said : List ℕ → List ℕ
said text = codes "redodb: " ++ text ++ codes "\n"

-- the same for a file
abbrev pub said_of : List ℕ → List ℕ → List ℕ
said_of name text = said (name ++ codes ": " ++ text)

abbrev pub in_line : ℕ → List ℕ → List ℕ
in_line line word = codes "line " ++ decimal line ++ codes ": " ++ word

abbrev pub said_of_file : List (String Global) → ℕ → List ℕ → List ℕ
said_of_file files file text = said_of (file_name files file) text

-- the same for a line in a file
abbrev pub said_of_line : List (String Global) → ℕ → ℕ → List ℕ → List ℕ
said_of_line files file line word = said_of_file files file (in_line line word)

-- the line on standard error; a history is the first file
abbrev pub fault_line : List (String Global) → Fault → List ℕ
fault_line files Memory = said (codes "memory")
fault_line files Usage = said (codes "usage")
fault_line files (CannotOpen file) = said_of_file files file (codes "cannot open")
fault_line files (Read file) = said_of_file files file (codes "read")
fault_line files (TooLong file) = said_of_file files file (codes "too long")
fault_line files (Line file line fault) = said_of_line files file line (fault_word_of fault)
fault_line files BadHeader = said_of_file files 0 (codes "bad header")
fault_line files Cut = said_of_file files 0 (codes "cut")
fault_line files (BadSession line) = said_of_line files 0 line (codes "bad-session")
fault_line files (BadReply line) = said_of_line files 0 line (codes "bad-reply")
fault_line files NoSession = said (codes "no session")
fault_line files TooManySessions = said (codes "too many sessions")
fault_line files Write = said (codes "write")

-- 1 for a history that differs, 2 for a fault, and else 0
abbrev pub status_of : Result (Option Verdict) Fault → ℕ
status_of (Ok None) = 0
status_of (Ok (Some (Same count))) = 0
status_of (Ok (Some (Differs line reply))) = 1
status_of (Err fault) = 2
