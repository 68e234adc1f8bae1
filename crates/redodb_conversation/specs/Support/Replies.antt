-- The answer to one line in this many bytes.
use Rattle.std.specs.Prelude.{◌≡◌, ◌⊎◌, ℕ, ◌<◌, ◌++◌, length}
use Rattle.redodb_model.specs.Names.{Text}
use Rattle.redodb_model.specs.State.{State}
use Rattle.redodb_text.specs.declared.inquiries.Inquiry.{Inquiry}
use Rattle.redodb_live.specs.Support.AnswerForms.{AnswersInForm}
use Rattle.redodb_live.specs.Support.LiveState.{LiveState, calls_in}
use Rattle.redodb_live.specs.declared.fault.Unanswered.TheVariants.{Memory}
use Rattle.redodb_live.specs.declared.fault.AnswerFault.{AnswerFault}
use Rattle.redodb_live.specs.declared.fault.AnswerFault.TheVariants.{Unanswered, TooLong}
use Rattle.redodb_conversation.specs.declared.replying.Replied.{Replied}
use Rattle.redodb_conversation.specs.declared.replying.Replied.TheVariants.{Done, Fault}
use Rattle.redodb_keeping.specs.Rounds.{Round, Asks, IsFaultWord}
use Rattle.redodb_conversation.specs.Logs.{logged_of}
use Rattle.redodb_keeping.specs.Support.Steps.{known_of, Known, Answering, Ending, Inquiring, Listing, Refusing, IsStep}
use Rattle.redodb_keeping.specs.Support.Sending.{refusal_word_of}

-- what the round logs is a prefix of its answer
abbrev pub LogsPrefix : State Text → Round → Type 0
LogsPrefix st round = (rest : Text) × (round.output ≡ logged_of st round.lines ++ rest)

-- a command, an end or a question was answered; or the line has a fault, which is the answer
abbrev pub IsReplied : Replied → Known → Known → Round → Type 0
IsReplied Done old new round =
    Answering old new round
    ⊎ (Ending old new round ⊎ (Inquiring old new round ⊎ Listing old new round))
IsReplied Fault old new round = Refusing old new round

-- the line was read, its round is one of those of `replied`, and was appended to `output` and `logged`
pub record AppendsRound (replied : Replied) (old new : Known)
    (received output output_after logged logged_after : Text) : Type 0
  where
    pub round : Round
    pub received_is : round.received ≡ received
    pub step : IsReplied replied old new round
    pub writes : output_after ≡ output ++ round.output
    pub logs : logged_after ≡ logged ++ logged_of old.state round.lines
    pub prefix : LogsPrefix old.state round

-- the answer to the line would have this many bytes
pub record WouldReply (old : Known) (received : Text) (size : ℕ) : Type 0 where
  pub round : Round
  pub next : Known
  pub received_is : round.received ≡ received
  pub step : IsStep old next round
  pub size_is : size ≡ length round.output

-- memory ran out, or that is more than `most`
abbrev pub IsPutOffFor : Known → Text → ℕ → AnswerFault → Type 0
IsPutOffFor old received most (Unanswered why) = why ≡ Memory
IsPutOffFor old received most (TooLong size) = (most < size) × WouldReply old received size

-- memory ran out, or the answer about the name is longer than `most`
abbrev pub IsInquiryFaultFor : State Text → ℕ → Inquiry → Text → ℕ → AnswerFault → Type 0
IsInquiryFaultFor st session inquiry name most (Unanswered why) = why ≡ Memory
IsInquiryFaultFor st session inquiry name most (TooLong size) =
    (most < size)
    × ((line : Text) × AnswersInForm st session inquiry name line × (size ≡ length line))

-- why a text was refused
abbrev pub IsUndoneFor : LiveState → ℕ → Text → ℕ → AnswerFault → Type 0
IsUndoneFor live session text most (Unanswered why) =
    IsFaultWord (calls_in live) live.names text (refusal_word_of why)
IsUndoneFor live session text most (TooLong size) =
    (most < size)
    × ((received : Text) → Asks received session text → WouldReply (known_of live) received size)
