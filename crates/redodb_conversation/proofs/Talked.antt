-- What a conversation comes to when all that was read was answered, or an operation failed.
use Rattle.std.proofs.Common.{◌≡◌, List, [], ◌++◌, Option, sym, subst, append-nil}
use Rattle.std.specs.Io.KnownBytes.{Consumes, Keeps}
use Rattle.std.proofs.KnownBytes.{Consumes-kept}
use Rattle.redodb_model.specs.Names.{Text}
use Rattle.redodb_live.specs.Support.LiveState.{LiveState}
use Rattle.redodb_log.specs.Operations.{Operation}
use Rattle.redodb_conversation.specs.Logs.{HasNoEnd}
use Rattle.redodb_keeping.specs.Rounds.{received_in}
use Rattle.redodb_conversation.specs.Support.Moments.{Start, IsBrokenOff}
use Rattle.redodb_keeping.specs.Support.Steps.{known_of, Known}
use Rattle.redodb_conversation.specs.Support.Places.{TalksAt, as_place, idle_place}
use Rattle.redodb_keeping.specs.Support.Sending.{IsSendCause}
use Rattle.redodb_conversation.specs.Support.Talking.{HasAnsweredAll, IsTalkCause}
use Rattle.redodb_keeping.specs.declared.sending.Unsent.{Unsent}
use Rattle.redodb_keeping.specs.declared.fault.ServeFault.{ServeFault}
use Rattle.redodb_keeping.specs.declared.fault.ServeFault.TheVariants.{Log, Write}
use Rattle.redodb_conversation.proofs.Responding.{place, same_waiting}
use Rattle.redodb_conversation.proofs.UnderWay.{reads_on, received_more}

module _ (start : Start) (known : Known) (left left' : Option Text) (done : List Operation)
    (logged output begun : Text)
    (talk : TalksAt start left (place known done logged output) begun)
  where
    -- a read that failed took nothing
    pub kept_left : Keeps left left' → TalksAt start left' (place known done logged output) begun
    kept_left same =
        reads_on start (record { known = known; left = left; done = done })
        (record { output = output; logged = logged }) begun talk left' begun
        (Consumes-kept start.left left left' (received_in (talk.sent ++ talk.kept) ++ begun)
        talk.received same)

    -- a read gave more
    pub read_more : (bytes : Text) → Consumes left left' bytes
        → TalksAt start left' (place known done logged output) (begun ++ bytes)
    read_more bytes taken =
        received_more start (record { known = known; left = left; done = done })
        (record { output = output; logged = logged }) begun talk left' bytes taken

    -- a read gave nothing
    pub read_none : Consumes left left' [] → TalksAt start left' (place known done logged output)
        begun
    read_none taken =
        subst (λ t. TalksAt start left' (place known done logged output) t) (append-nil begun)
        (read_more [] taken)

-- where nothing waits
module _ (start : Start) (left : Option Text) (live : LiveState) (done : List Operation)
    (unsent : Unsent) (more : Text) (none_logged : unsent.logged.items ≡ [])
    (none_output : unsent.output.items ≡ [])
  where
    pub none_waiting : TalksAt start left (as_place live done unsent) more
        → TalksAt start left (idle_place live done) more
    none_waiting talk =
        same_waiting start left (known_of live) done unsent.logged.items unsent.output.items [] []
        more (sym none_logged) (sym none_output) talk

    pub waiting_again : TalksAt start left (idle_place live done) more
        → TalksAt start left (as_place live done unsent) more
    waiting_again talk =
        same_waiting start left (known_of live) done [] [] unsent.logged.items unsent.output.items
        more none_logged none_output talk

-- nothing waits, and the line that began has no end
pub answered_all : (start : Start) (known : Known) (left : Option Text) (done : List Operation)
    (logged output begun : Text) → logged ≡ [] → output ≡ [] → HasNoEnd begun
    → TalksAt start left (place known done logged output) begun
    → HasAnsweredAll start known left done
answered_all start known left done logged output begun e f free talk =
    (begun, free, same_waiting start left known done logged output [] [] begun (sym e) (sym f) talk)

-- an operation failed
pub send_cause_talks : (start : Start) (known : Known) (left : Option Text) (done : List Operation)
    (fault : ServeFault) → IsSendCause done fault
    → IsBrokenOff start (record { known = known; left = left; done = done })
    → IsTalkCause start known left done fault
send_cause_talks start known left done (Log fault) cause broken = (cause, broken)
send_cause_talks start known left done Write cause broken = (cause, broken)
send_cause_talks start known left done fault cause broken = absurd cause
