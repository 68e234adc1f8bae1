-- In the midst of a conversation a dump takes the place of the log, or the log fails just then.
use Rattle.std.proofs.Common.{◌≡◌, Bool, true, false, cond, List, [], ◌∷◌, ◌++◌, Option, refl, sym, ap, ◌∙◌, subst, append-nil, inr}
use Rattle.std.specs.Prelude.{if◌then◌else◌}
use Rattle.redodb_model.specs.Names.{Text}
use Rattle.redodb_model.specs.History.{Line}
use Rattle.redodb_live.specs.Support.LiveState.{LiveState}
use Rattle.redodb_log.specs.Logs.{AreLogged}
use Rattle.redodb_log.specs.Operations.{Operation, Replace, LogFailed, IsAlways, written_by}
use Rattle.redodb_keeping.specs.Rounds.{Round, received_in}
use Rattle.redodb_conversation.specs.Talks.{AreLines, IsLogAfter, history_of, lines_after, output_of}
use Rattle.std.specs.Io.KnownBytes.{Consumes}
use Rattle.redodb_conversation.specs.Support.Moments.{Start, Moment, IsBrokenOff, IsSafe, IsUnderWay, known_first}
use Rattle.redodb_keeping.specs.Support.Steps.{known_of, AreSteps, LeadsTo}
use Rattle.redodb_conversation.specs.Support.Places.{BreaksOff, GoesOn, idle_place, moment_at}
use Rattle.redodb_conversation.specs.Support.Talking.{nothing}
use Rattle.redodb_keeping.proofs.LawfulLines.{rounds_said, rounds_names}
use Rattle.redodb_keeping.proofs.Led.{steps_are_rounds, steps_lead}
use Rattle.redodb_conversation.proofs.UnderWay.{output_whole}
use Rattle.redodb_conversation.proofs.Moments.{begins_more, log_failed_safe, prefix_of_either, prefix_of_same, prefix_self}
use Rattle.redodb_conversation.proofs.OpeningEnds.{IsDumpOf}
use Rattle.redodb_conversation.proofs.WholeOperations.{always_whole}

module _ (start : Start) (live : LiveState) (left : Option Text) (done : List Operation)
    (more : Text)
  where
    abbrev now : Moment
    now = record { known = known_of live; left = left; done = done }

    module _ (way : IsUnderWay start now nothing more) (dump : Text)
        (is_dump : IsDumpOf live dump)
      where
        abbrev rounds : List Round
        rounds = way.sent ++ way.kept

        -- the history up to now
        abbrev lines : List (Line Text)
        lines = lines_after start.former rounds

        led : LeadsTo lines now.known
        led = steps_lead (history_of start.former) (known_first start) now.known rounds
            way.is_start.led way.steps

        lines_logged : AreLogged lines
        lines_logged =
            let history = history_of start.former in
            let are = steps_are_rounds history (known_first start) now.known rounds
            way.is_start.led way.steps in
            record {
              legal = led.legal;
              said = rounds_said history rounds are way.is_start.logged.said;
              few_names = rounds_names history rounds are way.is_start.logged.few_names;
            }

        abbrev replaced : List Operation
        replaced = Replace dump ∷ done

        -- the dump is the log after all rounds
        dump_log : IsLogAfter start.former start.first rounds dump
        dump_log = record {
          before = rounds;
          since = [];
          parts = sym (append-nil rounds);
          base = dump;
          is_base = inr (is_dump lines lines_logged led);
          log_is = sym (append-nil dump);
        }

        written : written_by done ≡ output_of start.version start.former rounds
        written =
            way.output ∙ sym (append-nil (output_of start.version start.former way.sent))
            ∙ sym (output_whole start now nothing more way)

        safe : IsSafe start rounds replaced
        safe = inr (record {
          answered = rounds;
          others = [];
          parts = sym (append-nil rounds);
          written = prefix_of_same (written_by done)
              (output_of start.version start.former rounds) written;
          log = dump;
          is_log = dump_log;
          logged = prefix_of_either start.sync dump dump dump (prefix_self dump)
              (prefix_self dump);
          nothing_else = prefix_of_same dump (dump ++ []) (sym (append-nil dump));
        })

        always : IsAlways (IsSafe start rounds) replaced
        always = always_whole (IsSafe start rounds) done way.always (Replace dump) refl safe

        on_disk : (b : Bool) → cond b dump dump ≡ dump
        on_disk true = refl
        on_disk false = refl

        -- it took the place of the log
        pub goes_on_replaced : IsUnderWay start (record now { done = replaced }) nothing more
        goes_on_replaced =
            let none = append-nil rounds in
            record {
              is_start = way.is_start;
              sent = rounds;
              kept = [];
              steps = subst (AreSteps (known_first start) now.known) (sym none) way.steps;
              lines = subst AreLines (sym none) way.lines;
              received = subst (λ rs. Consumes start.left left (received_in rs ++ more)) (sym none)
                  way.received;
              begins = begins_more start.bytes start.former (Replace dump) done refl way.begins;
              fine = (refl, way.fine);
              always = subst (λ rs. IsAlways (IsSafe start rs) replaced) (sym none) always;
              log = dump_log;
              disk = on_disk start.sync;
              to_log = refl;
              output = written;
              to_write = refl;
            }

        -- and then the log failed
        pub breaks_off_replaced : IsBrokenOff start
            (record now { done = LogFailed ∷ replaced })
        breaks_off_replaced = record {
          known = now.known;
          rounds = rounds;
          more = more;
          steps = way.steps;
          lines = way.lines;
          received = way.received;
          begins = begins_more start.bytes start.former LogFailed replaced refl
              (begins_more start.bytes start.former (Replace dump) done refl way.begins);
          stops = (refl, way.fine);
          always = always_whole (IsSafe start rounds) replaced always LogFailed refl
              (log_failed_safe start rounds replaced safe);
        }

-- where it took the place
pub replaced_if : (b : Bool) (dump : Text) (done done_after : List Operation) → b ≡ true
    → done_after ≡ (if b then Replace dump ∷ done else done) → done_after ≡ Replace dump ∷ done
replaced_if b dump done done_after is e =
    e ∙ ap (λ x. if x then Replace dump ∷ done else done) is

-- whatever was asked and read
module _ (live : LiveState) (done done_after : List Operation) (dump : Text)
    (is_dump : IsDumpOf live dump)
  where
    pub replaced_goes_on : done_after ≡ Replace dump ∷ done → (sync : Bool) (more : Text)
        → GoesOn sync (idle_place live done) (idle_place live done_after) more more
    replaced_goes_on e sync more start left same talk =
        subst (λ ops. IsUnderWay start (moment_at (idle_place live ops) left) nothing more)
        (sym e) (goes_on_replaced start live left done more talk dump is_dump)

    pub replaced_breaks_off : done_after ≡ LogFailed ∷ Replace dump ∷ done
        → (sync : Bool) (more : Text)
        → BreaksOff sync (idle_place live done) (idle_place live done_after) more
    replaced_breaks_off e sync more start left same talk =
        subst (λ ops. IsBrokenOff start (moment_at (idle_place live ops) left)) (sym e)
        (breaks_off_replaced start live left done more talk dump is_dump)
