-- Moments of a conversation after its greeting: what was read and answered so far, and what waits to be sent.
use Rattle.std.specs.Prelude.{◌≡◌, ◌⊎◌, ℕ, Bool, cond, List, ◌++◌, Option}
use Rattle.std.specs.Io.KnownBytes.{Consumes}
use Rattle.redodb_model.specs.Names.{Text, texts}
use Rattle.redodb_model.specs.State.{empty}
use Rattle.redodb_model.specs.History.{left_by}
use Rattle.redodb_live.specs.Lines.{names_after}
use Rattle.redodb_log.specs.Logs.{AreLogged}
use Rattle.redodb_log.specs.Operations.{Operation, HasNoFailure, StopsAtFailure, held_after, written_by, IsAlways}
use Rattle.redodb_conversation.specs.Logs.{logged_of}
use Rattle.redodb_keeping.specs.Rounds.{Round, received_in, lines_in, output_in}
use Rattle.redodb_conversation.specs.Talks.{Former, AreLines, BeginsBy, IsBegun, IsLogAfter, IsLoggedFirst, history_of, output_of, state_after}
use Rattle.redodb_keeping.specs.Support.Steps.{Known, AreSteps, LeadsTo}

-- how a conversation began: what was asked, what was restored from these bytes, the log before the first answer, how
-- many calls are counted, and what is left to be read
pub record Start : Type 0 where
  pub sync : Bool
  pub version : Text
  pub bytes : Text
  pub former : Former
  pub first : Text
  pub calls : ℕ
  pub left : Option Text

-- what is known before the first line
abbrev pub known_first : Start → Known
known_first start =
    let history = history_of start.former in
    record {
      names = names_after history;
      state = left_by texts empty history;
      calls = start.calls;
    }

-- the history before the first line can be in a log, and leaves what is known then
pub record IsStart (start : Start) : Type 0 where
  pub led : LeadsTo (history_of start.former) (known_first start)
  pub logged : AreLogged (history_of start.former)

-- what is known, the bytes that are left to be read, and what was done
pub record Moment : Type 0 where
  pub known : Known
  pub left : Option Text
  pub done : List Operation

-- what is answered and waits to be sent
pub record Waiting : Type 0 where
  pub output : Text
  pub logged : Text

-- what is true at a moment
abbrev pub IsSafe : Start → List Round → List Operation → Type 0
IsSafe start rounds done =
    IsBegun start.bytes start.former done
    ⊎ IsLoggedFirst start.sync start.version start.first start.former rounds done

-- since the start these rounds were read and sent, these were read and wait, and then these bytes were read
pub record IsUnderWay (start : Start) (now : Moment) (waiting : Waiting) (more : Text) : Type 0
  where
    pub is_start : IsStart start
    pub sent : List Round
    pub kept : List Round
    pub steps : AreSteps (known_first start) now.known (sent ++ kept)
    pub lines : AreLines (sent ++ kept)
    pub received : Consumes start.left now.left (received_in (sent ++ kept) ++ more)
    pub begins : BeginsBy start.bytes start.former now.done
    pub fine : HasNoFailure now.done
    pub always : IsAlways (IsSafe start (sent ++ kept)) now.done
    pub log : IsLogAfter start.former start.first sent (held_after now.done).all
    pub disk : cond start.sync (held_after now.done).synced (held_after now.done).all
        ≡ (held_after now.done).all
    pub to_log : logged_of (state_after start.former sent) (lines_in kept) ≡ waiting.logged
    pub output : written_by now.done ≡ output_of start.version start.former sent
    pub to_write : output_in kept ≡ waiting.output

-- since the start these rounds were read, and an operation failed
pub record IsBrokenOff (start : Start) (now : Moment) : Type 0 where
  pub known : Known
  pub rounds : List Round
  pub more : Text
  pub steps : AreSteps (known_first start) known rounds
  pub lines : AreLines rounds
  pub received : Consumes start.left now.left (received_in rounds ++ more)
  pub begins : BeginsBy start.bytes start.former now.done
  pub stops : StopsAtFailure now.done
  pub always : IsAlways (IsSafe start rounds) now.done
