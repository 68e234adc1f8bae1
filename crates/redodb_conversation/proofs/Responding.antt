-- A conversation goes on, or is cut short, by the answer to a line and by what is sent.
use Rattle.std.proofs.Common.{◌≡◌, ◌⊎◌, Bool, List, [], ◌++◌, Option, refl, sym, ap, ◌∙◌, subst, append-nil, inl, inr}
use Rattle.redodb_model.specs.Names.{Text}
use Rattle.redodb_history.specs.Histories.{ended}
use Rattle.redodb_log.specs.Operations.{Operation}
use Rattle.redodb_keeping.specs.Rounds.{Round}
use Rattle.redodb_conversation.specs.Logs.{logged_of}
use Rattle.redodb_keeping.specs.Support.Steps.{Known, Refusing, IsStep}
use Rattle.redodb_conversation.specs.Support.Moments.{Start, Moment, IsUnderWay, IsBrokenOff}
use Rattle.redodb_keeping.specs.Support.Sending.{IsKeptBack, IsSent, IsSentInPart, IsFaultSentInPart, sent_after}
use Rattle.redodb_conversation.specs.Support.KeptLines.{IsReceivedOf}
use Rattle.redodb_conversation.specs.Support.Places.{Place, GoesOn, BreaksOff, TalksAt, moment_at}
use Rattle.redodb_conversation.proofs.LongLines.{step_of_whole}
use Rattle.redodb_conversation.proofs.UnderWay.{answered_more, all_sent, sent_in_part}

abbrev pub place : Known → List Operation → Text → Text → Place
place known done logged output = record {
  known = known;
  done = done;
  waiting = record { output = output; logged = logged };
}

pub same_waiting : (start : Start) (left : Option Text) (known : Known) (done : List Operation)
    (logged output logged' output' more : Text) → logged' ≡ logged → output' ≡ output
    → TalksAt start left (place known done logged output) more
    → TalksAt start left (place known done logged' output') more
same_waiting start left known done logged output logged' output' more e f talk =
    subst (λ w. IsUnderWay start (moment_at (place known done logged output) left) w more)
    (λ i. record { output = sym f i; logged = sym e i }) talk

module _ (sync : Bool) (known : Known) (done done' : List Operation)
    (logged logged' output output' more : Text)
  where
    -- what waited was sent
    pub sending_goes_on : done' ≡ sent_after sync logged output done → logged' ≡ [] → output' ≡ []
        → GoesOn sync (place known done logged output) (place known done' logged' output') more more
    sending_goes_on e none_logged none_output start left same talk =
        let at = all_sent start (moment_at (place known done logged output) left)
        (record { output = output; logged = logged }) more talk in
        same_waiting start left known done' [] [] logged' output' more none_logged none_output
        (subst (λ ops. TalksAt start left (place known ops [] []) more)
        (ap (λ b. sent_after b logged output done) same ∙ sym e) at)

    pub sending_breaks_off : IsSentInPart sync logged output done done'
        → BreaksOff sync (place known done logged output) (place known done' logged' output') more
    sending_breaks_off failed start left same talk =
        sent_in_part start (moment_at (place known done logged output) left)
        (record { output = output; logged = logged }) more talk done'
        (subst (λ b. IsSentInPart b logged output done done') (sym same) failed)

-- it doesn't matter what is known after a failure
broken_anyhow : (start : Start) (now : Moment) (known : Known) → IsBrokenOff start now
    → IsBrokenOff start (record now { known = known })
broken_anyhow start now known broken = record {
  known = broken.known;
  rounds = broken.rounds;
  more = broken.more;
  steps = broken.steps;
  lines = broken.lines;
  received = broken.received;
  begins = broken.begins;
  stops = broken.stops;
  always = broken.always;
}

module _ (sync : Bool) (old new : Known) (done : List Operation) (logged output : Text)
    (round : Round) (whole more : Text) (received : IsReceivedOf whole round.received)
  where
    -- an answer that waits
    pub goes_on_by : (logged' output' : Text) → IsStep old new round
        → logged' ≡ logged ++ logged_of old.state round.lines → output' ≡ output ++ round.output
        → GoesOn sync (place old done logged output) (place new done logged' output')
        (ended whole ++ more) more
    goes_on_by logged' output' step e f start left same talk =
        same_waiting start left new done (logged ++ logged_of old.state round.lines)
        (output ++ round.output) logged' output' more e f
        (answered_more start (moment_at (place old done logged output) left)
        (record { output = output; logged = logged }) (ended whole ++ more) talk
        (record round { received = whole }) new more refl received.unended
        (step_of_whole old new round whole received.is step))

module _ (sync : Bool) (old new : Known) (round : Round) (whole more : Text)
    (received : IsReceivedOf whole round.received) (refused : Refusing old new round)
  where
    -- a fault that waits
    refused_waits : (done : List Operation) (logged output : Text)
        → GoesOn sync (place old done logged output)
        (place new done logged (output ++ round.output)) (ended whole ++ more) more
    refused_waits done logged output =
        goes_on_by sync old new done logged output round whole more received logged
        (output ++ round.output) (inr (inr (inr (inr refused))))
        (sym (append-nil logged)
        ∙ ap (λ ls. logged ++ logged_of old.state ls) (sym refused.none)) refl

    module _ (done : List Operation) (logged output : Text) where
      module _ (done' : List Operation) (logged' output' : Text) where
        kept_back_goes_on : IsKeptBack done done' logged logged' output output' round.output
            → GoesOn sync (place old done logged output) (place new done' logged' output')
            (ended whole ++ more) more
        kept_back_goes_on is start left same talk =
            subst (λ ops. TalksAt start left (place new ops logged' output') more) (sym is.same)
            (same_waiting start left new done logged (output ++ round.output) logged' output' more
            is.logged_same is.output_more (refused_waits done logged output start left same talk))

        sent_goes_on : IsSent sync done done' logged logged' output output' round.output
            → GoesOn sync (place old done logged output) (place new done' logged' output')
            (ended whole ++ more) more
        sent_goes_on is start left same talk =
            let once = sent_after sync logged output done in
            sending_goes_on sync new once done' [] logged' round.output output' more is.sent
            is.none_logged is.none_output start left same
            (refused_waits once [] [] start left same
            (sending_goes_on sync old done once logged [] output [] (ended whole ++ more)
            refl refl refl start left same talk))

        -- a fault that was written
        pub fault_goes_on : IsKeptBack done done' logged logged' output output' round.output
            ⊎ IsSent sync done done' logged logged' output output' round.output
            → GoesOn sync (place old done logged output) (place new done' logged' output')
            (ended whole ++ more) more
        fault_goes_on (inl is) = kept_back_goes_on is
        fault_goes_on (inr is) = sent_goes_on is

        -- a fault that could not be written
        pub fault_breaks_off : IsFaultSentInPart sync logged output round.output done done'
            → BreaksOff sync (place old done logged output) (place new done' logged' output')
            (ended whole ++ more)
        fault_breaks_off (inl failed) start left same talk =
            broken_anyhow start (moment_at (place old done' logged' output') left) new
            (sending_breaks_off sync old done done' logged logged' output output'
            (ended whole ++ more) failed start left same talk)
        fault_breaks_off (inr failed) start left same talk =
            let once = sent_after sync logged output done in
            sending_breaks_off sync new once done' [] logged' round.output output' more failed
            start left same
            (refused_waits once [] [] start left same
            (sending_goes_on sync old done once logged [] output [] (ended whole ++ more)
            refl refl refl start left same talk))
