-- Why a text is not read as a history: each fault with its cause.
use Rattle.std.specs.Prelude.{◌≡◌, ◌≢◌, ℕ, ◌+◌, ◌≤◌, ◌<◌, ◌⊎◌, List, [], ◌∷◌, ◌++◌, length, codes, decimal, Contains, Some, ⊤}
use Rattle.std.specs.List.{flat_map}
use Rattle.redodb_model.specs.Names.{Text}
use Rattle.redodb_model.specs.Command.{Command}
use Rattle.redodb_model.specs.Reply.{Reply}
use Rattle.redodb_model.specs.History.{Line}
use Rattle.redodb_text.specs.Grammar.{IsCommandLine, AddsNames}
use Rattle.redodb_text.specs.Questions.{line_fault}
use Rattle.redodb_text.specs.Replies.{IsReplyText, AddsReplyNames}
use Rattle.redodb_history.specs.Histories.{ended, header_of}
use Rattle.redodb_text.specs.declared.fault.LineFault.{LineFault}
use Rattle.redodb_history.specs.HistoryTexts.{AreLinesOf}
use Rattle.redodb_history.specs.declared.fault.HistoryFault.{HistoryFault}
use Rattle.redodb_history.specs.declared.fault.HistoryFault.TheVariants.{Memory, BadHeader, Cut, BadSession, BadLine, BadReply}

-- the part before the first space, or all if there is none; and the part after that space
pub record IsCutAtSpace (line prefix rest : Text) : Type 0 where
  pub free : ¬ (Contains prefix 32)
  pub parts : (line ≡ prefix ++ 32 ∷ rest) ⊎ ((line ≡ prefix) × (rest ≡ []))

abbrev pub arrow : Text
arrow = codes " => "

-- the part before the first arrow, and the part after it
pub record IsCutAtArrow (rest command reply : Text) : Type 0 where
  pub parts : rest ≡ command ++ arrow ++ reply
  pub first : (prefix back : Text) → rest ≡ prefix ++ arrow ++ back → length command ≤ length prefix

abbrev pub HasNoArrow : Text → Type 0
HasNoArrow rest = (prefix back : Text) → rest ≢ prefix ++ arrow ++ back

-- the number of one of that many sessions
abbrev pub IsSessionWord : ℕ → Text → ℕ → Type 0
IsSessionWord most word session = (session < most) × (word ≡ decimal (session + 1))

-- the line's first word is no session's number
abbrev pub HasBadSession : Text → Type 0
HasBadSession line =
    (prefix : Text) × (rest : Text) × IsCutAtSpace line prefix rest
    × ((session : ℕ) → ¬ (IsSessionWord 64 prefix session))

-- the line begins with a session's number, and this is the rest
abbrev pub HasSession : Text → Text → Type 0
HasSession line rest =
    (prefix : Text) × (session : ℕ) × IsCutAtSpace line prefix rest
    × IsSessionWord 64 prefix session

-- the text is no reply's, or its names don't fit
abbrev pub IsNoReply : List Text → Text → Type 0
IsNoReply names text =
    (reply : Reply Text) (after : List Text) → IsReplyText text reply
    → ¬ (AddsReplyNames 65536 names reply after)

-- a session and a command, and then no reply
abbrev pub HasBadReply : List Text → Text → Type 0
HasBadReply names line =
    (rest : Text) × HasSession line rest × (HasNoArrow rest
    ⊎ ((text : Text) × (reply : Text) × (command : Command Text) × (after : List Text)
    × IsCutAtArrow rest text reply × IsCommandLine text command
    × AddsNames 65536 names (command ∷ []) after × IsNoReply after reply))

-- a session, and then no command: this is the fault of its text
abbrev pub HasBadCommand : List Text → Text → LineFault → Type 0
HasBadCommand names line fault =
    (rest : Text) × (text : Text) × (reply : Text) × HasSession line rest
    × IsCutAtArrow rest text reply × (line_fault 65536 names text ≡ Some fault)

-- the lines before the one of this number, counted from 1, are read, with these names; the header
-- counts this one too, and this is what is left of the input
pub record IsReadUpTo (input : Text) (number : ℕ) (names : List Text) (left : Text) : Type 0 where
  pub count : ℕ
  pub few : count ≤ 1048576
  pub within : number ≤ count
  pub texts : List Text
  pub lines : List (Line Text)
  pub read : AreLinesOf texts lines names
  pub counted : number ≡ length texts + 1
  pub parts : input ≡ header_of count ++ flat_map ended texts ++ left

-- the same, if what is left begins with this line
abbrev pub IsReadBefore : Text → ℕ → List Text → Text → Type 0
IsReadBefore input number names line =
    ¬ (Contains line 10) × ((left : Text) × IsReadUpTo input number names (ended line ++ left))

-- the cause of a fault; `Memory` says nothing of the text
abbrev pub IsHistoryFault : Text → HistoryFault → Type 0
IsHistoryFault input Memory = ⊤
IsHistoryFault input BadHeader =
    (count : ℕ) (rest : Text) → count ≤ 1048576 → input ≢ header_of count ++ rest
IsHistoryFault input Cut =
    (number : ℕ) × (names : List Text) × (left : Text) × IsReadUpTo input number names left
    × ¬ (Contains left 10)
IsHistoryFault input (BadSession number) =
    (names : List Text) × (line : Text) × IsReadBefore input number names line × HasBadSession line
IsHistoryFault input (BadLine number fault) =
    (names : List Text) × (line : Text) × IsReadBefore input number names line
    × HasBadCommand names line fault
IsHistoryFault input (BadReply number) =
    (names : List Text) × (line : Text) × IsReadBefore input number names line
    × HasBadReply names line
