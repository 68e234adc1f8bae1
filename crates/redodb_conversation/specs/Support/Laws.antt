-- Words of the laws of conversations.
use Rattle.std.specs.Prelude.{◌≡◌, ◌≢◌, ℕ, ◌+◌, ◌<◌, ◌≤◌, List, [], ◌∷◌, ◌++◌, Bool, Option, cond, filter, length, nat_eq, codes, decimal, ⊤}
use Rattle.std.specs.List.{AllByRecursion, starts_with}
use Rattle.redodb_model.specs.Names.{Text, texts}
use Rattle.redodb_model.specs.History.{Line}
use Rattle.redodb_model.specs.Changes.{changing_from}
use Rattle.redodb_text.specs.Inquiries.{inquiry_text_of}
use Rattle.redodb_text.specs.declared.inquiries.Inquiry.TheVariants.{Why}
use Rattle.redodb_live.specs.Lines.{names_after}
use Rattle.redodb_log.specs.Logs.{Past, past_lines, IsLogOf}
use Rattle.redodb_log.specs.Operations.{Operation, Held, IsPrefix, held_after, written_by}
use Rattle.redodb_keeping.specs.Rounds.{Round, Asks, fault_text_of, lines_in}
use Rattle.redodb_keeping.specs.Openings.{AreRestored}
use Rattle.redodb_conversation.specs.Talks.{Former, IsConversation, lines_after, output_of, state_after}
use Rattle.redodb_conversation.specs.declared.keeping.Keeping.{Keeping}

-- the lines of a log that begins with what is known after the first of these rounds: the history up to there, and those
-- of the lines since that change something
abbrev pub logged_after : Former → List Round → List Round → List (Line Text)
logged_after former before since =
    lines_after former before
    ++ changing_from texts (state_after former before) (lines_in since)

-- the lines are those of a log after these rounds
abbrev pub AreLoggedBy : Former → List Round → List (Line Text) → Type 0
AreLoggedBy former rounds lines =
    (before : List Round) × (since : List Round) × (rounds ≡ before ++ since)
    × (lines ≡ logged_after former before since)

-- the lines are few enough for the text of a history, and so are their sessions and names
pub record AreFew (lines : List (Line Text)) : Type 0 where
  pub sessions : AllByRecursion (λ line. line.session < 64) lines
  pub few : length lines ≤ 1048576
  pub names : length (names_after lines) ≤ 65536

-- the rounds whose line begins with the session's number and a space
abbrev pub rounds_of : ℕ → List Round → List Round
rounds_of s rounds =
    filter (λ round. starts_with nat_eq round.received (decimal (s + 1) ++ codes " ")) rounds

-- the bytes are a log that ends with these lines, which begin with its past
abbrev pub IsLogUpTo : Text → List (Line Text) → Text → Type 0
IsLogUpTo bytes all torn =
    (past : Past) × (lines : List (Line Text)) × IsLogOf past bytes lines torn
    × (all ≡ past_lines past ++ lines)

-- nothing was written, and the log restores the lines that were restored before, and maybe some of the ends after them
pub record RestoresFormer (salvage : Bool) (former : Former) (now : List Operation) : Type 0 where
  pub written : written_by now ≡ []
  pub lines : List (Line Text)
  pub restored : AreRestored salvage former.past (held_after now).all lines
  pub more : List (Line Text)
  pub first : lines ≡ former.lines ++ more
  pub back : List (Line Text)
  pub nothing_else : former.lines ++ lines_in former.ends ≡ lines ++ back

-- the bytes are a log: all lines that were logged up to the last answer that is written, or begun, and nothing else than
-- what the rounds logged
pub record IsLogBehind (version : Text) (former : Former) (rounds : List Round)
    (written bytes : Text) : Type 0 where
  pub before : List Round
  pub since : List Round
  pub others : List Round
  pub parts : rounds ≡ (before ++ since) ++ others
  pub output : IsPrefix written (output_of version former (before ++ since))
  pub lines : List (Line Text)
  pub torn : Text
  pub is_log : IsLogUpTo bytes lines torn
  pub more : List (Line Text)
  pub first : lines ≡ logged_after former before since ++ more
  pub back : List (Line Text)
  pub nothing_else : logged_after former before (since ++ others) ≡ lines ++ back

-- what may be left of a log that held this, if only what was synced is sure to be left, or all
abbrev pub IsLeftOf : Bool → Held → Text → Type 0
IsLeftOf sync held bytes =
    IsPrefix (cond sync held.synced held.all) bytes × IsPrefix bytes held.all

-- whatever is left of the log has the lines of each answer that was written
abbrev pub RestoresAnswered : Bool → Text → Former → List Round → List Operation → Type 0
RestoresAnswered sync version former rounds now =
    (left : Text) → IsLeftOf sync (held_after now) left
    → IsLogBehind version former rounds (written_by now) left

-- a conversation from there, whose log begins with this base after so many rounds, was led to an end, whatever it was
-- read from, and however its log was kept
abbrev pub HasLed : Text → Text → ℕ → Former → List Round → Text → List Operation → Type 0
HasLed version base count former rounds rest done =
    (keeping : Keeping) × (input : Option Text) × (input_after : Option Text)
    × ((is : IsConversation keeping version former rounds rest input input_after done)
    × (is.log.base ≡ base) × (length is.log.before ≡ count))

-- the answer is not that memory or the counters ran out
abbrev pub HasSufficed : Round → Type 0
HasSufficed round = (s : ℕ)
    → (round.output ≢ fault_text_of (decimal (s + 1)) (codes "memory"))
    × (round.output ≢ fault_text_of (decimal (s + 1)) (codes "worn"))

-- the line asks why a name is out of date
abbrev pub AsksWhy : Text → Type 0
AsksWhy received = (s : ℕ) × (name : Text) × Asks received s (inquiry_text_of Why name)

-- the rounds made the same lines, and have the same answer, unless it says why a name is out of date
pub record Agrees (a b : Round) : Type 0 where
  pub lines : a.lines ≡ b.lines
  pub output : ¬ (AsksWhy a.received) → a.output ≡ b.output

-- round by round
abbrev pub Agree : List Round → List Round → Type 0
Agree [] [] = ⊤
Agree [] (b ∷ others) = ⊥
Agree (a ∷ more) [] = ⊥
Agree (a ∷ more) (b ∷ others) = Agrees a b × Agree more others
