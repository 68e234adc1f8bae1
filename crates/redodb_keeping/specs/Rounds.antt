-- A conversation: the lines that were read, the history's lines that they made, and the answers.
use Rattle.std.specs.Prelude.{◌≡◌, ◌≢◌, ◌⊎◌, ℕ, ◌<◌, ◌≤◌, ◌+◌, ◌*◌, ◌^◌, List, [], ◌∷◌, ◌++◌, Some, None, length, codes, decimal}
use Rattle.std.specs.List.{AllByRecursion, flat_map}
use Rattle.redodb_model.specs.Names.{Text, texts}
use Rattle.redodb_model.specs.State.{empty}
use Rattle.redodb_model.specs.Reply.{Okay}
use Rattle.redodb_model.specs.Step.{Answers}
use Rattle.redodb_model.specs.History.{Line, left_by, part_of}
use Rattle.redodb_model.specs.Closing.{ClosesAfter}
use Rattle.redodb_text.specs.Grammar.{IsCommandLine}
use Rattle.redodb_text.specs.Inquiries.{inquiry_text_of, inquiry_in, inquiry_fault, asked_fault}
use Rattle.redodb_text.specs.declared.inquiries.Inquiry.{Inquiry}
use Rattle.redodb_text.specs.Faults.{fault_word_of}
use Rattle.redodb_text.specs.Questions.{words_of}
use Rattle.redodb_text.specs.declared.fault.LineFault.{LineFault}
use Rattle.redodb_history.specs.Histories.{ended, line_text_of}
use Rattle.redodb_live.specs.Lines.{names_after}
use Rattle.redodb_live.specs.Answers.{AnswersInquiry, names_line}

-- a line that was read, without its LF; the lines of the history that it made; its answer
pub record Round : Type 0 where
  pub received : Text
  pub lines : List (Line Text)
  pub output : Text

-- the line gives the session, whose number it counts from 1, this text
abbrev pub Asks : Text → ℕ → Text → Type 0
Asks received s text = (s < 65535) × (received ≡ decimal (s + 1) ++ codes " " ++ text)

-- the line has a command whose names fit: the database's reply is the answer
pub record IsAnswered (before : List (Line Text)) (round : Round) : Type 0 where
  pub line : Line Text
  pub text : Text
  pub asks : Asks round.received line.session text
  pub parsed : IsCommandLine text line.command
  pub few_names : length (names_after (before ++ line ∷ [])) ≤ 16777216
  pub answers : Answers texts (left_by texts empty before) line.session line.command line.reply
  pub lines_are : round.lines ≡ line ∷ []
  pub output_is : round.output ≡ line_text_of line

abbrev pub end_word : Text
end_word = codes "end"

-- the answer after the closing commands of a session
abbrev pub end_text_of : ℕ → Text
end_text_of s = ended (decimal (s + 1) ++ codes " end => ok")

-- the line is a session's end: its closing commands were done and are the answer
pub record IsEnded (before : List (Line Text)) (round : Round) : Type 0 where
  pub session : ℕ
  pub asks : Asks round.received session end_word
  pub accepted : AllByRecursion (λ line. (line.session ≡ session) × (line.reply ≡ Okay)) round.lines
  pub closes : ClosesAfter texts (part_of session before) round.lines
  pub output_is : round.output ≡ flat_map line_text_of round.lines ++ end_text_of session

-- the line is a question about a name: the answer is right after the history so far
pub record IsInquired (before : List (Line Text)) (round : Round) : Type 0 where
  pub session : ℕ
  pub inquiry : Inquiry
  pub name : Text
  pub asks : Asks round.received session (inquiry_text_of inquiry name)
  pub fits : inquiry_fault (inquiry_text_of inquiry name) ≡ None
  pub answers : AnswersInquiry (left_by texts empty before) session inquiry name round.output
  pub none : round.lines ≡ []

abbrev pub names_word : Text
names_word = codes "names"

-- the line asks what is known of all names: the answer is right after the history so far
pub record IsListed (before : List (Line Text)) (round : Round) : Type 0 where
  pub session : ℕ
  pub asks : Asks round.received session names_word
  pub answers : round.output ≡ names_line session (names_after before) (left_by texts empty before)
  pub none : round.lines ≡ []

-- the line of a fault
abbrev pub fault_text_of : Text → Text → Text
fault_text_of number word = ended (number ++ codes " fault " ++ word)

-- the line does not begin with a session
abbrev pub HasNoSession : Text → Type 0
HasNoSession received = (s : ℕ) (text : Text) → ¬ (Asks received s text)

-- after so many lines, with so many names, one more line can't be counted, and two for each of 65 names more: these are
-- kept for closing
abbrev pub AreWorn : ℕ → List Text → Type 0
AreWorn calls names = 2 ^ 32 ≤ calls + 1 + 2 * (length names + 65)

-- the word of the first fault of a text that is neither `end` nor `names`; or that memory ran out, or the counters
abbrev pub IsFaultWord : ℕ → List Text → Text → Text → Type 0
IsFaultWord calls names text word =
    ((fault : LineFault) × (text ≢ end_word) × (text ≢ names_word)
    × (asked_fault 16777216 names text ≡ Some fault) × (word ≡ fault_word_of fault))
    ⊎ ((word ≡ codes "memory")
    ⊎ ((text ≢ end_word) × (text ≢ names_word) × (inquiry_in (words_of text) ≡ None)
    × (word ≡ codes "worn") × AreWorn calls names))

-- the line has a fault: that is the answer, and the line made no line of the history
pub record IsFaulty (before : List (Line Text)) (round : Round) : Type 0 where
  pub none : round.lines ≡ []
  pub cause : (HasNoSession round.received
      × (round.output ≡ fault_text_of (codes "0") (codes "bad-session")))
      ⊎ ((s : ℕ) × (text : Text) × (word : Text) × Asks round.received s text
      × IsFaultWord (length before) (names_after before) text word
      × (round.output ≡ fault_text_of (decimal (s + 1)) word))

abbrev pub IsRound : List (Line Text) → Round → Type 0
IsRound before round =
    IsAnswered before round ⊎ (IsEnded before round ⊎ (IsInquired before round
    ⊎ (IsListed before round ⊎ IsFaulty before round)))

-- each is a round after the lines of the history before it
abbrev pub AreRounds : List (Line Text) → List Round → Type 0
AreRounds before [] = Unit {0}
AreRounds before (round ∷ rounds) =
    IsRound before round × AreRounds (before ++ round.lines) rounds

-- each ends a session
abbrev pub AreEnds : List (Line Text) → List Round → Type 0
AreEnds before [] = Unit {0}
AreEnds before (round ∷ rounds) =
    IsEnded before round × AreEnds (before ++ round.lines) rounds

abbrev pub lines_in : List Round → List (Line Text)
lines_in rounds = flat_map (λ round. round.lines) rounds

abbrev pub received_in : List Round → Text
received_in rounds = flat_map (λ round. ended round.received) rounds

abbrev pub output_in : List Round → Text
output_in rounds = flat_map (λ round. round.output) rounds
