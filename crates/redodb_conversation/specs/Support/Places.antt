-- How a conversation goes on.
use Rattle.std.specs.Prelude.{◌≡◌, Bool, List, Option, ◌++◌}
use Rattle.redodb_model.specs.Names.{Text}
use Rattle.redodb_live.specs.Support.LiveState.{LiveState}
use Rattle.redodb_log.specs.Operations.{Operation}
use Rattle.redodb_conversation.specs.Support.KeptLines.{IsPrefixOf}
use Rattle.redodb_keeping.specs.Support.Steps.{Known, known_of}
use Rattle.redodb_conversation.specs.Support.Moments.{Start, Moment, Waiting, IsUnderWay, IsBrokenOff}
use Rattle.redodb_conversation.specs.Support.Talking.{nothing}
use Rattle.redodb_keeping.specs.declared.sending.Unsent.{Unsent}

-- what is known, what was done, and what waits to be sent
pub record Place : Type 0 where
  pub known : Known
  pub done : List Operation
  pub waiting : Waiting

abbrev pub as_place : LiveState → List Operation → Unsent → Place
as_place live done unsent = record {
  known = known_of live;
  done = done;
  waiting = record { output = unsent.output.items; logged = unsent.logged.items };
}

-- nothing waits to be sent
abbrev pub idle_place : LiveState → List Operation → Place
idle_place live done = record { known = known_of live; done = done; waiting = nothing }

-- the moment at that place if these bytes are left to be read
abbrev pub moment_at : Place → Option Text → Moment
moment_at place left = record { known = place.known; left = left; done = place.done }

abbrev pub TalksAt : Start → Option Text → Place → Text → Type 0
TalksAt start left place more = IsUnderWay start (moment_at place left) place.waiting more

-- any conversation that came to the old place goes on to the new one: of the bytes that were read
-- and not answered, `before`, there is `after` left
abbrev pub GoesOn : Bool → Place → Place → Text → Text → Type 0
GoesOn sync old new before after =
    (start : Start) (left : Option Text) → start.sync ≡ sync → TalksAt start left old before
    → TalksAt start left new after

-- or it is cut short
abbrev pub BreaksOff : Bool → Place → Place → Text → Type 0
BreaksOff sync old new before =
    (start : Start) (left : Option Text) → start.sync ≡ sync → TalksAt start left old before
    → IsBrokenOff start (moment_at new left)

-- it goes on, and a prefix is kept of a line that has not ended before the rest
abbrev pub GoesOnInLine : Bool → Place → Place → Text → Text → Text → Type 0
GoesOnInLine sync old new before prefix rest =
    (start : Start) (left : Option Text) → start.sync ≡ sync → TalksAt start left old before
    → (begun : Text) × IsPrefixOf begun prefix × TalksAt start left new (begun ++ rest)
