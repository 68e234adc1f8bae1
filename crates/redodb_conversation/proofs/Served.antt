-- The public view of a conversation: from its log's old bytes on.
use Rattle.std.proofs.Common.{◌≡◌, ◌==◌, ℕ, not, List, [], ◌∷◌, ◌++◌, Option, refl, sym, ap, ◌∙◌, subst, append-nil, inl, inr}
use Rattle.std.specs.Prelude.{◌↔◌, IsTrue, ⊤}
use Rattle.std.proofs.lemmas.Bool.{false≢true}
use Rattle.std.proofs.KnownBytes.{Consumes-nil}
use Rattle.redodb_model.specs.Names.{Text}
use Rattle.redodb_live.specs.Support.LiveState.{calls_in}
use Rattle.redodb_log.specs.Logs.{Past, HasPast}
use Rattle.redodb_log.specs.Operations.{Operation, Read as ReadLog, OutputFailed, HasNoFailure, StopsAtFailure, IsAlways, held_after}
use Rattle.redodb_io.proofs.Counts.{same_count}
use Rattle.redodb_keeping.specs.Failures.{output_failed}
use Rattle.redodb_conversation.specs.Causes.{AnsweredAll, TalkedSoFar, IsServeCause, IsUnchanged}
use Rattle.redodb_keeping.specs.Rounds.{Round}
use Rattle.redodb_conversation.specs.Talks.{Former, HasFound, BeginsBy, IsConversation, IsFirstLog, IsLogAfter, IsTalk, history_of, output_of}
use Rattle.redodb_conversation.specs.declared.keeping.Keeping.{Keeping}
use Rattle.redodb_conversation.specs.Support.Moments.{Start, Moment, IsBrokenOff, IsSafe, known_first}
use Rattle.redodb_keeping.specs.Support.Opening.{IsOpenCause}
use Rattle.redodb_conversation.specs.Support.Opening.{BeginsAt, BeginsInPart, IsOpenedFrom, start_of}
use Rattle.redodb_keeping.specs.Support.Steps.{known_of, Known, LeadsTo}
use Rattle.redodb_keeping.specs.Support.Sending.{IsFollowedBy, IsSendCause}
use Rattle.redodb_conversation.specs.Support.Talking.{HasAnsweredAll, IsTalkCause, IsTalkFault, TalksFrom, nothing}
use Rattle.redodb_keeping.specs.declared.fault.ServeFault.{ServeFault}
use Rattle.redodb_keeping.specs.declared.fault.ServeFault.TheVariants.{Memory, Worn, State, Differs, Log, Read, TooLong, Write}
use Rattle.redodb_conversation.specs.declared.opening.Opened.{Opened}
use Rattle.redodb_keeping.proofs.Led.{steps_are_rounds, steps_lead}
use Rattle.redodb_conversation.proofs.UnderWay.{log_grown, output_whole}

-- where no operation failed, none was done after one that failed
stops_if_fine : (done : List Operation) → HasNoFailure done → StopsAtFailure done
stops_if_fine [] fine = tt
stops_if_fine (operation ∷ done) fine = fine.1

-- the oldest of the operations
last_same : (later others : List Operation) (x y : Operation) → later ++ x ∷ [] ≡ others ++ y ∷ []
    → x ≡ y
last_same [] [] x y e = cc
last_same [] (other ∷ []) x y e = absurd (cc)
last_same [] (other ∷ next ∷ others) x y e = absurd (cc)
last_same (first ∷ []) [] x y e = absurd (cc)
last_same (first ∷ next ∷ later) [] x y e = absurd (cc)
last_same (first ∷ later) (other ∷ others) x y e =
    last_same later others x y (let tails : later ++ x ∷ [] ≡ others ++ y ∷ [] = cc in tails)

abbrev bytes_of : Operation → Text
bytes_of (ReadLog bytes) = bytes
bytes_of operation = []

-- the log has one past alone by what was read of it
found_past : (past : Past) (later done : List Operation) (bytes : Text)
    → done ≡ later ++ ReadLog bytes ∷ [] → HasFound past done → HasPast past bytes
found_past past later done bytes begins found =
    subst (HasPast past)
    (ap bytes_of (last_same found.later later (ReadLog found.bytes) (ReadLog bytes)
    (sym found.begins ∙ begins))) found.has_past

-- how a conversation began, after whatever past
module _ (keeping : Keeping) (version : Text) (past : Past) (bytes : Text) (opened : Opened)
    (is : IsOpenedFrom keeping.salvage version past bytes opened) (first : Text)
    (is_first : IsFirstLog is.former first) (input : Option Text)
  where
    abbrev start : Start
    start = start_of keeping.sync version bytes is.former first (calls_in opened.live) input

    led : LeadsTo (history_of is.former) (known_first start)
    led = record {
      legal = is.left.legal;
      names_are = refl;
      state_is = refl;
      few_calls = is.left.few_calls;
    }

    -- the rounds of a conversation that was led so far
    abbrev TalkedFrom : Option Text → List Operation → Type 0
    TalkedFrom left done =
        (former : Former) × (rounds : List Round) × (rest : Text) × (former.past ≡ past)
        × IsTalk keeping version former rounds rest input left done

    -- an operation failed
    talked_from : (now : Moment) → IsBrokenOff start now → TalkedFrom now.left now.done
    talked_from now broken = (
      is.former,
      broken.rounds,
      broken.more,
      is.past_is,
      record {
        bytes = bytes;
        begins = broken.begins;
        stops = broken.stops;
        restored = is.restored;
        ended = is.ended;
        legal = (steps_lead (history_of is.former) (known_first start) broken.known broken.rounds
            led broken.steps).legal;
        are_rounds = steps_are_rounds (history_of is.former) (known_first start) broken.known
            broken.rounds led broken.steps;
        are_lines = broken.lines;
        received = broken.received;
        first = first;
        is_first = is_first;
        always = broken.always;
      },
    )

    -- all that was read was answered
    answered_from : (known : Known) (left : Option Text) (done : List Operation)
        → HasAnsweredAll start known left done
        → (former : Former) × (rounds : List Round) × (rest : Text) × (former.past ≡ past)
        × IsConversation keeping version former rounds rest input left done
    answered_from known left done (more, free, way) =
        let now : Moment = record { known = known; left = left; done = done } in
        let rounds = way.sent ++ way.kept in (
          is.former,
          rounds,
          more,
          is.past_is,
          record {
            talk = record {
              bytes = bytes;
              begins = way.begins;
              stops = stops_if_fine done way.fine;
              restored = is.restored;
              ended = is.ended;
              legal = (steps_lead (history_of is.former) (known_first start) known rounds led
                  way.steps).legal;
              are_rounds = steps_are_rounds (history_of is.former) (known_first start) known rounds
                  led way.steps;
              are_lines = way.lines;
              received = way.received;
              first = first;
              is_first = is_first;
              always = way.always;
            };
            fine = way.fine;
            unended = free;
            log = subst (IsLogAfter is.former first rounds) (append-nil (held_after done).all)
                (log_grown start now nothing more way);
            output = way.output ∙ sym (append-nil (output_of version is.former way.sent))
                ∙ sym (output_whole start now nothing more way);
          },
        )

    -- it began in part
    began_in_part : (done : List Operation) → BeginsBy bytes is.former done → StopsAtFailure done
        → IsAlways (IsSafe start []) done → TalkedFrom input done
    began_in_part done begins stops always =
        talked_from (record { known = known_first start; left = input; done = done })
        (record {
          known = known_first start;
          rounds = [];
          more = [];
          steps = refl;
          lines = tt;
          received = Consumes-nil input;
          begins = begins;
          stops = stops;
          always = always;
        })

-- a log with these bytes was opened after each past that they have, and the conversation began
module _ (keeping : Keeping) (version bytes : Text) (opened : Opened) (input : Option Text)
    (is : (past : Past) → HasPast past bytes
    → IsOpenedFrom keeping.salvage version past bytes opened) (begun : List Operation)
    (begins : BeginsAt keeping.sync keeping.salvage version bytes opened begun)
  where
    module _ (known : Known) (left : Option Text) (done : List Operation) where
      abbrev Talks : (Start → Type 0) → Type 0
      Talks = TalksFrom keeping.sync (known_of opened.live) input begun

      -- what it came to, after a past that the bytes have
      come_to : (P : Start → Type 0) → Talks P → (past : Past) (has : HasPast past bytes)
          → (first : Text) × IsFirstLog (is past has).former first
          × P (start_of keeping.sync version bytes (is past has).former first
          (calls_in opened.live) input)
      come_to P talks past has =
          let (first, is_first, way) = begins.1 past (is past has) input in (
            first,
            is_first,
            talks (start_of keeping.sync version bytes (is past has).former first
                (calls_in opened.live) input) refl way,
          )

      -- the operations that were done begin with the read
      module _ (later : List Operation) (after : done ≡ later ++ ReadLog bytes ∷ []) where
        pub answers_all : Talks (λ start. HasAnsweredAll start known left done)
            → AnsweredAll keeping version input left done
        answers_all talks = λ past found.
            let has = found_past past later done bytes after found in
            let (first, is_first, all) =
            come_to (λ start. HasAnsweredAll start known left done) talks past has in
            answered_from keeping version past bytes opened (is past has) first is_first input known
            left done all

        talks_so_far : Talks (λ start.
            IsBrokenOff start (record { known = known; left = left; done = done }))
            → TalkedSoFar keeping version input left done
        talks_so_far talks = λ past found.
            let has = found_past past later done bytes after found in
            let (first, is_first, broken) = come_to (λ start.
            IsBrokenOff start (record { known = known; left = left; done = done })) talks past has in
            talked_from keeping version past bytes opened (is past has) first is_first input
            (record { known = known; left = left; done = done }) broken

        -- why it ended
        pub talk_cause_serves : (fault : ServeFault) → IsTalkFault done fault
            → Talks (λ start. IsTalkCause start known left done fault)
            → IsServeCause keeping version input left done fault
        talk_cause_serves Read device talks = answers_all talks
        talk_cause_serves TooLong device talks = answers_all talks
        talk_cause_serves (Log fault) device talks =
            (device, inr (talks_so_far (λ start same way. (talks start same way).1)))
        talk_cause_serves Write device talks =
            (device, talks_so_far (λ start same way. (talks start same way).1))
        talk_cause_serves fault device talks = absurd device

-- a log was read, and nothing was done then
pub unchanged_by_read : (done earlier : List Operation) (bytes : Text) → done ≡ ReadLog bytes ∷ earlier
    → earlier ≡ [] → IsUnchanged done × StopsAtFailure done
unchanged_by_read done earlier bytes e f =
    subst (λ ops. IsUnchanged ops × StopsAtFailure ops)
    (sym (e ∙ ap (λ ops. ReadLog bytes ∷ ops) f)) ((refl, tt), tt)

abbrev IsOther : ServeFault → Type 0
IsOther Read = ⊥
IsOther fault = ⊤

pub memory_is_no_read : Memory ≡ Read → ⊥
memory_is_no_read same = subst IsOther same tt

-- a fault that isn't that of a read, where none failed
pub no_read_failed : (fault : ServeFault) (failures : ℕ) → (fault ≡ Read → ⊥)
    → (fault ≡ Read) ↔ IsTrue (not (failures == failures))
no_read_failed fault failures other = (
  λ same. absurd (other same),
  λ failed. absurd (false≢true (sym (same_count failures) ∙ failed)),
)

-- a failure of the output isn't one of the log
output_changes : (done : List Operation) → IsTrue (output_failed done) → IsUnchanged done → ⊥
output_changes [] failed same = absurd (cc)
output_changes (OutputFailed ∷ earlier) failed same = absurd (cc)
output_changes (operation ∷ earlier) failed same = absurd (cc)

module _ (keeping : Keeping) (version bytes : Text) (opened : Opened) (input : Option Text)
    (is : (past : Past) → HasPast past bytes
    → IsOpenedFrom keeping.salvage version past bytes opened)
  where
    in_part : (done : List Operation) → IsFollowedBy (ReadLog bytes ∷ []) done
        → ((past : Past) (from : IsOpenedFrom keeping.salvage version past bytes opened)
        (left : Option Text) → BeginsBy bytes from.former done × StopsAtFailure done
        × ((first : Text) × IsFirstLog from.former first
        × IsAlways (IsSafe (start_of keeping.sync version bytes from.former first
        (calls_in opened.live) left) []) done))
        → TalkedSoFar keeping version input input done
    in_part done (later, after) part past found =
        let has = found_past past later done bytes after found in
        let (begins, stops, (first, is_first, always)) = part past (is past has) input in
        began_in_part keeping version past bytes opened (is past has) first is_first input done
        begins stops always

    -- the log or the output failed at the beginning
    pub begin_cause_serves : (done : List Operation) (fault : ServeFault)
        → IsSendCause done fault
        → BeginsInPart keeping.sync keeping.salvage version bytes opened done
        → IsServeCause keeping version input input done fault
    begin_cause_serves done (Log fault) failed (inl (same, stops)) =
        (failed, inl (refl, same, stops))
    begin_cause_serves done (Log fault) failed (inr (follows, part)) =
        (failed, inr (in_part done follows part))
    begin_cause_serves done Write failed (inl (same, stops)) =
        absurd (output_changes done failed same)
    begin_cause_serves done Write failed (inr (follows, part)) =
        (failed, in_part done follows part)
    begin_cause_serves done fault cause part = absurd cause

module _ (keeping : Keeping) (version bytes : Text) (input : Option Text) (done : List Operation)
    (read : done ≡ ReadLog bytes ∷ [])
  where
    -- a log was not opened, and nothing was done
    pub open_cause_serves : (fault : ServeFault) → IsOpenCause keeping.salvage bytes fault
        → IsServeCause keeping version input input done fault
    open_cause_serves Memory cause =
        let (same, stops) = unchanged_by_read done [] bytes read refl in
        (refl, same, stops)
    open_cause_serves Worn cause = (refl, (bytes, read, cause))
    open_cause_serves (State line) cause = (refl, (bytes, read, cause))
    open_cause_serves (Differs line) cause = (refl, (bytes, read, cause))
    open_cause_serves fault cause = absurd cause
