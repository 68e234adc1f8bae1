-- How a log is opened, and what was done then.
use Rattle.std.specs.Prelude.{◌≡◌, ◌⊎◌, ℕ, ◌≤◌, Some, None, IfSome, IsSomeAnd, Bool, List, [], ◌∷◌, ◌++◌, Option, length, take}
use Rattle.redodb_model.specs.Names.{Text}
use Rattle.redodb_live.specs.Lines.{lines_text_of}
use Rattle.redodb_live.specs.Support.LiveState.{calls_in}
use Rattle.redodb_log.specs.Logs.{Past, head_of, AreLogged, IsPast}
use Rattle.redodb_log.specs.Operations.{Operation, Read, Append, Replace, LogFailed, IsPrefix, IsAlways, StopsAtFailure}
use Rattle.redodb_keeping.specs.Rounds.{lines_in}
use Rattle.redodb_keeping.specs.Openings.{AreRestored, AreEnded}
use Rattle.redodb_keeping.specs.Support.Opening.{IsRest}
use Rattle.redodb_keeping.specs.Support.Sending.{IsFollowedBy}
use Rattle.redodb_keeping.specs.Support.Steps.{LeadsTo, known_of}
use Rattle.redodb_conversation.specs.Causes.{IsUnchanged}
use Rattle.redodb_conversation.specs.Talks.{Former, BeginsBy, IsFirstLog, found_in, found_log, history_of, greeting_of}
use Rattle.redodb_conversation.specs.Support.Moments.{Start, IsSafe, IsUnderWay}
use Rattle.redodb_conversation.specs.Support.Talking.{nothing}
use Rattle.redodb_conversation.specs.declared.opening.Opened.{Opened}

-- the lines of a log with these bytes were done again, and the sessions that it left ended
pub record IsOpenedFrom (salvage : Bool) (version : Text) (past : Past) (bytes : Text)
    (opened : Opened) : Type 0 where
  pub former : Former
  pub past_is : former.past ≡ past
  pub restored : AreRestored salvage former.past bytes former.lines
  pub ended : AreEnded (found_in former) former.ends
  pub left : LeadsTo (history_of former) (known_of opened.live)
  pub logged : AreLogged (history_of former)
  pub within : opened.bytes ≤ length bytes
  pub lines : ((former.past ≡ None) × (former.lines ≡ []))
      ⊎ IsPrefix (found_log former) (take opened.bytes bytes)
  pub rest : IsRest former.past opened.rest bytes (take opened.bytes bytes) former.lines
  pub log : take opened.bytes bytes ++ opened.logged.items
      ≡ found_log former ++ lines_text_of (lines_in former.ends)
  pub dump : IfSome opened.dump (λ dump. IsPast (Some (history_of former))
      × (dump.items ≡ head_of (Some (history_of former))))
  pub greeting : opened.greeting.items ≡ greeting_of version former

-- the ends were appended, or a dump took the place of the log
abbrev pub HasGoneOn : Opened → List Operation → List Operation → Type 0
HasGoneOn opened done done_after =
    (done_after ≡ Append opened.logged.items ∷ done)
    ⊎ IsSomeAnd opened.dump (λ dump. done_after ≡ Replace dump.items ∷ done)

-- or the log failed then
abbrev pub HasGoneOnInPart : Opened → List Operation → List Operation → Type 0
HasGoneOnInPart opened done done_after =
    ((part : Text) × IsPrefix part opened.logged.items
    × (done_after ≡ LogFailed ∷ Append part ∷ done))
    ⊎ IsSomeAnd opened.dump (λ dump. done_after ≡ LogFailed ∷ Replace dump.items ∷ done)

-- how the conversation of an opened log starts
abbrev pub start_of : Bool → Text → Text → Former → Text → ℕ → Option Text → Start
start_of sync version bytes former first calls left = record {
  sync = sync;
  version = version;
  bytes = bytes;
  former = former;
  first = first;
  calls = calls;
  left = left;
}

module _ (sync : Bool) (salvage : Bool) (version bytes : Text) (opened : Opened) where
  -- any log that was opened so goes on, and was greeted
  abbrev pub BeginsAt : List Operation → Type 0
  BeginsAt done =
      IsFollowedBy (Read bytes ∷ []) done
      × ((past : Past) (is : IsOpenedFrom salvage version past bytes opened) (left : Option Text)
      → (first : Text) × IsFirstLog is.former first
      × IsUnderWay (start_of sync version bytes is.former first (calls_in opened.live) left)
      (record { known = known_of opened.live; left = left; done = done }) nothing [])

  -- or nothing was changed, or it began in part
  abbrev pub BeginsInPart : List Operation → Type 0
  BeginsInPart done =
      (IsUnchanged done × StopsAtFailure done)
      ⊎ (IsFollowedBy (Read bytes ∷ []) done
      × ((past : Past) (is : IsOpenedFrom salvage version past bytes opened) (left : Option Text)
      → BeginsBy bytes is.former done × StopsAtFailure done
      × ((first : Text) × IsFirstLog is.former first
      × IsAlways (IsSafe
      (start_of sync version bytes is.former first (calls_in opened.live) left) []) done)))
