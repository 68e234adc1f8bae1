-- From its first line on, what a conversation comes to.
use Rattle.std.specs.Prelude.{◌≡◌, ◌<◌, ◌≤◌, Bool, List, [], Option, IsTrue, length, vec_capacity, ⊤}
use Rattle.redodb_model.specs.Names.{Text}
use Rattle.redodb_log.specs.Operations.{Operation}
use Rattle.redodb_keeping.specs.Failures.{log_failed, output_failed}
use Rattle.redodb_conversation.specs.Logs.{HasNoEnd}
use Rattle.redodb_keeping.specs.Support.Steps.{Known}
use Rattle.redodb_conversation.specs.Support.Moments.{Start, Waiting, IsUnderWay, IsBrokenOff}
use Rattle.redodb_keeping.specs.Support.Sending.{IsSendCause}
use Rattle.redodb_keeping.specs.declared.fault.ServeFault.{ServeFault}
use Rattle.redodb_keeping.specs.declared.fault.ServeFault.TheVariants.{Log, Read, TooLong, Write}
use Rattle.redodb_conversation.specs.declared.talking.Buffers.{Buffers}

-- a chunk has room, and no prefix is kept
pub record AreEmpty (buffers : Buffers) : Type 0 where
  pub chunk : 0 < length buffers.chunk.items
  pub room : 8199 ≤ vec_capacity buffers.prefix
  pub none : buffers.prefix.items ≡ []

abbrev pub nothing : Waiting
nothing = record { output = []; logged = [] }

-- a conversation whose first line is next, if the log is synced or not, comes to that
abbrev pub TalksFrom : Bool → Known → Option Text → List Operation → (Start → Type 0) → Type 0
TalksFrom sync known left done comes_to =
    (start : Start) → start.sync ≡ sync
    → IsUnderWay start (record { known = known; left = left; done = done }) nothing []
    → comes_to start

-- all lines that were read were answered, and nothing waits
abbrev pub HasAnsweredAll : Start → Known → Option Text → List Operation → Type 0
HasAnsweredAll start known left done =
    (more : Text) × HasNoEnd more
    × IsUnderWay start (record { known = known; left = left; done = done }) nothing more

-- the fault is of the input, or of the device whose operation was the last
abbrev pub IsTalkFault : List Operation → ServeFault → Type 0
IsTalkFault done Read = ⊤
IsTalkFault done TooLong = ⊤
IsTalkFault done fault = IsSendCause done fault

module _ (start : Start) (known : Known) (left : Option Text) (done : List Operation) where
  -- why it ended
  abbrev pub IsTalkCause : ServeFault → Type 0
  IsTalkCause Read = HasAnsweredAll start known left done
  IsTalkCause TooLong = HasAnsweredAll start known left done
  IsTalkCause (Log fault) =
      IsTrue (log_failed done)
      × IsBrokenOff start (record { known = known; left = left; done = done })
  IsTalkCause Write =
      IsTrue (output_failed done)
      × IsBrokenOff start (record { known = known; left = left; done = done })
  IsTalkCause fault = ⊥
