-- Rounds by what is known before and after each, after whatever history.
use Rattle.std.specs.Prelude.{◌≡◌, ◌⊎◌, ℕ, ◌≤◌, ◌+◌, true, List, [], ◌∷◌, ◌++◌, None, length, codes, decimal}
use Rattle.std.specs.List.{AllByRecursion, flat_map}
use Rattle.redodb_names.specs.Names.{has}
use Rattle.redodb_model.specs.Names.{Text, texts}
use Rattle.redodb_model.specs.State.{State, empty}
use Rattle.redodb_model.specs.Command.{names_in}
use Rattle.redodb_model.specs.Step.{Answers, after}
use Rattle.redodb_model.specs.History.{Line, Legal, left_by}
use Rattle.redodb_model.specs.Support.Ending.{AreHeld, closing_lines_of}
use Rattle.redodb_text.specs.Grammar.{IsCommandLine, with_names}
use Rattle.redodb_text.specs.Inquiries.{inquiry_text_of, inquiry_fault}
use Rattle.redodb_text.specs.declared.inquiries.Inquiry.{Inquiry}
use Rattle.redodb_history.specs.Histories.{line_text_of}
use Rattle.redodb_live.specs.Support.AnswerForms.{AnswersInForm}
use Rattle.redodb_live.specs.Support.LiveState.{LiveState, state_in, calls_in}
use Rattle.redodb_live.specs.Answers.{names_line}
use Rattle.redodb_live.specs.Lines.{names_after}
use Rattle.redodb_keeping.specs.Rounds.{Round, Asks, IsFaultWord, HasNoSession, end_word, end_text_of, names_word, fault_text_of}

-- the names of the commands so far, the state over names, and how many lines were answered
pub record Known : Type 0 where
  pub names : List Text
  pub state : State Text
  pub calls : ℕ

-- what a database knows
abbrev pub known_of : LiveState → Known
known_of live = record { names = live.names; state = state_in live; calls = calls_in live }

-- the state after the history; no more calls are counted
pub record LeadsTo (lines : List (Line Text)) (known : Known) : Type 0 where
  pub legal : Legal texts lines
  pub names_are : known.names ≡ names_after lines
  pub state_is : known.state ≡ left_by texts empty lines
  pub few_calls : known.calls ≤ length lines

-- a command was answered
pub record Answering (old new : Known) (round : Round) : Type 0 where
  pub line : Line Text
  pub text : Text
  pub asks : Asks round.received line.session text
  pub parsed : IsCommandLine text line.command
  pub names_are : new.names ≡ with_names old.names (names_in line.command)
  pub few_names : length new.names ≤ 16777216
  pub answers : Answers texts old.state line.session line.command line.reply
  pub state_is : new.state ≡ after texts old.state line.session line.command
  pub calls_are : new.calls ≡ old.calls + 1
  pub lines_are : round.lines ≡ line ∷ []
  pub output_is : round.output ≡ line_text_of line

-- a session closed the targets that it held
pub record Ending (old new : Known) (round : Round) : Type 0 where
  pub session : ℕ
  pub asks : Asks round.received session end_word
  pub held : List Text
  pub are_held : AreHeld texts session old.state held
  pub known : AllByRecursion (λ t. has old.names t ≡ true) held
  pub names_are : new.names ≡ old.names
  pub state_is : new.state ≡ left_by texts old.state round.lines
  pub calls_are : new.calls ≡ old.calls + length round.lines
  pub lines_are : round.lines ≡ closing_lines_of session old.state held
  pub output_is : round.output ≡ flat_map line_text_of round.lines ++ end_text_of session

-- a question about a name was answered
pub record Inquiring (old new : Known) (round : Round) : Type 0 where
  pub session : ℕ
  pub inquiry : Inquiry
  pub name : Text
  pub asks : Asks round.received session (inquiry_text_of inquiry name)
  pub fits : inquiry_fault (inquiry_text_of inquiry name) ≡ None
  pub answers : AnswersInForm old.state session inquiry name round.output
  pub same : new ≡ old
  pub none : round.lines ≡ []

-- what is known of all names was answered
pub record Listing (old new : Known) (round : Round) : Type 0 where
  pub session : ℕ
  pub asks : Asks round.received session names_word
  pub answers : round.output ≡ names_line session old.names old.state
  pub same : new ≡ old
  pub none : round.lines ≡ []

-- the line has no session, or this fault, and this is its answer
abbrev pub IsFaultLine : ℕ → List Text → Text → Text → Type 0
IsFaultLine calls names received line =
    (HasNoSession received × (line ≡ fault_text_of (codes "0") (codes "bad-session")))
    ⊎ ((s : ℕ) × (text : Text) × (word : Text) × Asks received s text
    × IsFaultWord calls names text word × (line ≡ fault_text_of (decimal (s + 1)) word))

-- a fault was answered
pub record Refusing (old new : Known) (round : Round) : Type 0 where
  pub same : new ≡ old
  pub none : round.lines ≡ []
  pub cause : IsFaultLine old.calls old.names round.received round.output

abbrev pub IsStep : Known → Known → Round → Type 0
IsStep old new round =
    Answering old new round
    ⊎ (Ending old new round ⊎ (Inquiring old new round
    ⊎ (Listing old new round ⊎ Refusing old new round)))

-- one step for each round, from the old to the new
abbrev pub AreSteps : Known → Known → List Round → Type 0
AreSteps old new [] = new ≡ old
AreSteps old new (round ∷ rounds) =
    (middle : Known) × IsStep old middle round × AreSteps middle new rounds
