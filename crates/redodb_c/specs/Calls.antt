-- The results of the calls, and their effects.
use Rattle.std.specs.Prelude.{◌≡◌, ◌⊎◌, ℕ, ◌<◌, ◌++◌, [], drop, length}
use Rattle.redodb_model.specs.Names.{Text}
use Rattle.redodb_model.specs.State.{empty}
use Rattle.redodb_live.specs.Support.LiveState.{LiveState, IsAsKnown, state_in}
use Rattle.redodb_log.specs.Logs.{HasPast, Past}
use Rattle.redodb_log.specs.Restores.{IsRestored, DiffersAt, HasTooMany}
use Rattle.redodb_log.specs.declared.restoring.Restored.{Restored}
use Rattle.redodb_keeping.specs.Rounds.{Round}
use Rattle.redodb_conversation.specs.Logs.{logged_of}
use Rattle.redodb_keeping.specs.Support.Steps.{known_of, Known}
use Rattle.redodb_conversation.specs.Support.Replies.{IsReplied, LogsPrefix, WouldReply}
use Rattle.redodb_conversation.specs.declared.replying.Replied.{Replied}
use Rattle.redodb_conversation.specs.declared.replying.Replied.TheVariants.{Done, Fault}
use Rattle.redodb_c.specs.declared.answering.AnswerSizes.{AnswerSizes}
use Rattle.redodb_c.specs.declared.calls.Counts.{Counts}
use Rattle.redodb_c.specs.declared.contents.Contents.{Contents}
use Rattle.redodb_c.specs.declared.contents.Contents.TheVariants.{Closed, Open}

-- the line was read, and its round is one of those of `replied`; its answer is at the beginning of
-- the buffer, and a prefix of that is to be logged
pub record RepliesInto (replied : Replied) (old new : Known) (received room room_after : Text)
    (sizes : AnswerSizes) : Type 0
  where
    pub round : Round
    pub received_is : round.received ≡ received
    pub step : IsReplied replied old new round
    pub size_is : sizes.size ≡ length round.output
    pub room_is : room_after ≡ round.output ++ drop sizes.size room
    pub logged_is : sizes.logged ≡ length (logged_of old.state round.lines)
    pub prefix : LogsPrefix old.state round

-- by the status: the line was done; it was answered by its fault; or the buffer is too small, or
-- memory ran out, and then nothing was done
abbrev pub Answers : ℕ → LiveState → LiveState → Text → Text → Text → AnswerSizes → Type 0
Answers status old new received room room_after sizes =
    ((status ≡ 0) × RepliesInto Done (known_of old) (known_of new) received room room_after sizes)
    ⊎ (((status ≡ 1) × RepliesInto Fault (known_of old) (known_of new) received room room_after
    sizes) ⊎ (IsAsKnown old new × (room_after ≡ room)
    × (((status ≡ 2) × (length room < sizes.size) × WouldReply (known_of old) received sizes.size)
    ⊎ ((status ≡ 3) × (sizes.size ≡ 0) × (sizes.logged ≡ 0)))))

-- a database is open there, and answers; or none is
abbrev pub AnswersAt : ℕ → Contents → Contents → Text → Text → Text → AnswerSizes → Type 0
AnswersAt status (Open old) now received room room_after sizes =
    (new : LiveState) × (now ≡ Open new) × Answers status old new received room room_after sizes
AnswersAt status Closed now received room room_after sizes =
    (status ≡ 6) × (now ≡ Closed) × (room_after ≡ room)

-- an empty database is open there; or memory ran out, and nothing was done
abbrev pub Opens : ℕ → Contents → Contents → Type 0
Opens status contents now =
    ((status ≡ 0)
    × ((live : LiveState) × (now ≡ Open live) × (live.names ≡ []) × (state_in live ≡ empty)))
    ⊎ ((status ≡ 3) × (now ≡ contents))

-- the log's lines were done again, and the database is open there; or the log has a fault, or
-- memory ran out, and nothing was done. What is said of the log holds for each past that it has
abbrev pub Restores : ℕ → Contents → Contents → Text → Counts → Type 0
Restores status contents now log counts =
    ((status ≡ 0) × ((restored : Restored)
    × ((past : Past) → HasPast past log → IsRestored past log restored)
    × (now ≡ Open restored.live)
    × (counts.lines ≡ restored.lines) × (counts.bytes ≡ restored.bytes) × (counts.line ≡ 0)))
    ⊎ ((now ≡ contents)
    × ((status ≡ 3)
    ⊎ (((status ≡ 4) × ((past : Past) → HasPast past log
    → DiffersAt past log counts.line counts.lines counts.bytes))
    ⊎ ((status ≡ 5) × ((past : Past) → HasPast past log → HasTooMany past log)))))
