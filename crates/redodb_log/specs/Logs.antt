-- Logs: a header, or a header and a dump, and then the texts of lines.
use Rattle.std.specs.Prelude.{◌≡◌, ◌≢◌, ◌≤◌, List, [], ◌++◌, length, codes, Contains, Option, Some, None, IfSome}
use Rattle.std.specs.List.{AllByRecursion}
use Rattle.redodb_model.specs.Names.{Text, texts}
use Rattle.redodb_model.specs.State.{empty}
use Rattle.redodb_model.specs.History.{Line, Legal, left_by}
use Rattle.redodb_history.specs.Histories.{ended}
use Rattle.redodb_history.specs.Support.HistoryTexts.{IsLineSaid}
use Rattle.redodb_live.specs.Lines.{names_after, lines_text_of}
use Rattle.redodb_dump.specs.Dumps.{IsStateOver, dump_of}

abbrev pub header_words : Text
header_words = codes "redodb-log 1"

-- the first line of a log that begins with no dump
abbrev pub log_header : Text
log_header = ended header_words

-- the first line of a log that begins with a dump
abbrev pub dump_header : Text
dump_header = ended (codes "redodb-log 2")

-- the lines that a log had before a dump took their place, if one did: no file has them any more
abbrev pub Past : Type 0
Past = Option (List (Line Text))

abbrev pub past_lines : Past → List (Line Text)
past_lines None = []
past_lines (Some lines) = lines

-- what a log begins with: its first line, and the dump of what its past lines left
abbrev pub head_of : Past → Text
head_of None = log_header
head_of (Some lines) = dump_header ++ dump_of (names_after lines) (left_by texts empty lines)

-- sessions' commands with the database's replies, whose names are not too many
pub record AreLogged (lines : List (Line Text)) : Type 0 where
  pub legal : Legal texts lines
  pub said : AllByRecursion (IsLineSaid 65535) lines
  pub few_names : length (names_after lines) ≤ 16777216

-- these lines can have been logged, and what they left can be dumped
pub record IsPast (past : Past) : Type 0 where
  pub logged : AreLogged (past_lines past)
  pub dumped : IfSome past (λ lines. IsStateOver (names_after lines) (left_by texts empty lines))

-- the bytes are a log of the lines after this past, and then a rest without an LF
pub record IsLogOf (past : Past) (bytes : Text) (lines : List (Line Text)) (torn : Text)
    : Type 0 where
  pub is_past : IsPast past
  pub logged : AreLogged (past_lines past ++ lines)
  pub parts : bytes ≡ head_of past ++ lines_text_of lines ++ torn
  pub free : ¬ (Contains torn 10)

-- the bytes are a prefix of the header without its LF, possibly empty
abbrev pub IsTornHeader : Text → Type 0
IsTornHeader bytes = (rest : Text) × (header_words ≡ bytes ++ rest)

-- bytes that begin with a dump begin with that of what the past lines left; others have no past
abbrev pub HasPast : Past → Text → Type 0
HasPast None bytes = (rest : Text) → bytes ≢ dump_header ++ rest
HasPast (Some lines) bytes =
    IsPast (Some lines) × ((rest : Text) × (bytes ≡ head_of (Some lines) ++ rest))

-- the bytes end in what comes before the lines
abbrev pub IsTornHead : Past → Text → Type 0
IsTornHead None bytes = IsTornHeader bytes
IsTornHead (Some lines) bytes = (rest : Text) × (head_of (Some lines) ≡ bytes ++ rest)
