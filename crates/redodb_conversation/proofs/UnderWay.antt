-- A conversation goes on: one more line is answered, what waits is sent, more is read; or an operation fails.
use Rattle.std.proofs.Common.{◌≡◌, Bool, true, false, cond, List, [], ◌∷◌, ◌++◌, Option, refl, sym, ap, ◌∙◌, subst, append-nil, append_assoc, inl, inr}
use Rattle.std.specs.Io.KnownBytes.{Consumes}
use Rattle.std.proofs.KnownBytes.{Consumes-trans}
use Rattle.std.proofs.lemmas.List.Concat.{flat_map-append}
use Rattle.redodb_model.specs.Names.{Text, texts}
use Rattle.redodb_model.specs.State.{empty}
use Rattle.redodb_model.specs.History.{left_by}
use Rattle.redodb_model.proofs.OneMore.{left_by-append}
use Rattle.redodb_history.specs.Histories.{ended}
use Rattle.redodb_log.specs.Operations.{is_copy, Operation, Held, Append, Sync, Revert, Write, LogFailed, OutputFailed, HasNoFailure, IsPrefix, IsAlways, held_after, written_by}
use Rattle.redodb_conversation.specs.Logs.{HasNoEnd, logged_of}
use Rattle.redodb_keeping.specs.Rounds.{Round, lines_in, received_in, output_in}
use Rattle.redodb_conversation.specs.Talks.{AreLines, BeginsBy, IsLogAfter, history_of, output_of, state_after}
use Rattle.redodb_conversation.specs.Support.Moments.{Start, Moment, Waiting, IsSafe, IsUnderWay, IsBrokenOff, known_first}
use Rattle.redodb_keeping.specs.Support.Sending.{IsAppendedInPart, IsUnsynced, IsWrittenInPart, IsSentInPart, after_logging, sent_after}
use Rattle.redodb_keeping.specs.Support.Steps.{Known, IsStep, AreSteps}
use Rattle.redodb_conversation.specs.Support.Talking.{nothing}
use Rattle.redodb_conversation.proofs.WholeOperations.{always_whole, is_whole}
use Rattle.redodb_conversation.proofs.Moments.{begins_after_logging, begins_more, fine_after_logging, lines_more, prefix_self, prefix_of_same, prefix_trans, prefix_of_either, prefix_behind, append_always, write_always, log_more, logged_more, state_more, output_more, always_more, log_failed_safe, output_failed_safe, all_after_logging, kept_after_logging, written_after_logging, always_after_logging}
use Rattle.redodb_conversation.proofs.RoundByRound.{steps_more, steps_state, in_more}

-- what is kept of the log while more is appended
kept_while_appending : (sync : Bool) (log synced all some : Text) → cond sync synced all ≡ log
    → all ≡ log → IsPrefix log (cond sync synced (all ++ some))
kept_while_appending true log synced all some e f = prefix_of_same log synced (sym e)
kept_while_appending false log synced all some e f = (some, ap (λ t. t ++ some) f)

module _ (start : Start) (now : Moment) (waiting : Waiting) (more : Text)
    (way : IsUnderWay start now waiting more)
  where
    abbrev rounds : List Round
    rounds = way.sent ++ way.kept

    abbrev held : Held
    held = held_after now.done

    -- the log when all that waits is in it
    abbrev whole_log : Text
    whole_log = held.all ++ waiting.logged

    abbrev logged : List Operation
    logged = after_logging start.sync waiting.logged now.done

    begins_logged : BeginsBy start.bytes start.former logged
    begins_logged =
        begins_after_logging start.bytes start.former start.sync waiting.logged now.done way.begins

    fine_logged : HasNoFailure logged
    fine_logged = fine_after_logging waiting.logged now.done way.fine start.sync

    -- what is known is what these rounds left
    state_known : left_by texts (state_after start.former way.sent) (lines_in way.kept)
        ≡ now.known.state
    state_known =
        state_more start.former way.sent way.kept
        ∙ left_by-append texts empty (history_of start.former) (lines_in rounds)
        ∙ sym (steps_state (known_first start) now.known rounds way.steps)

    -- a line was read and answered
    pub answered_more : (round : Round) (known : Known) (rest : Text)
        → more ≡ ended round.received ++ rest → HasNoEnd round.received
        → IsStep now.known known round → IsUnderWay start (record now { known = known }) (record {
          output = waiting.output ++ round.output;
          logged = waiting.logged ++ logged_of now.known.state round.lines;
        }) rest
    answered_more round known rest e free step =
        let kept = way.kept ++ round ∷ [] in
        let state = state_after start.former way.sent in
        let assoc = append_assoc way.sent way.kept (round ∷ []) in
        record {
          is_start = way.is_start;
          sent = way.sent;
          kept = kept;
          steps = subst (AreSteps (known_first start) known) assoc
              (steps_more (known_first start) now.known known rounds round way.steps step);
          lines = subst AreLines assoc (lines_more rounds round way.lines free);
          received = subst (Consumes start.left now.left)
              (ap (λ t. received_in rounds ++ t) e
              ∙ sym (append_assoc (received_in rounds) (ended round.received) rest)
              ∙ ap (λ t. t ++ rest)
              (sym (in_more (λ r. ended r.received) way.sent way.kept round))) way.received;
          begins = way.begins;
          fine = way.fine;
          always = subst (λ rs. IsAlways (IsSafe start rs) now.done) assoc
              (always_more start rounds (round ∷ []) now.done way.always);
          log = way.log;
          disk = way.disk;
          to_log = logged_more state way.kept (round ∷ [])
              ∙ ap (λ ls. logged_of state (lines_in way.kept)
              ++ logged_of (left_by texts state (lines_in way.kept)) ls) (append-nil round.lines)
              ∙ ap (λ st. logged_of state (lines_in way.kept) ++ logged_of st round.lines) state_known
              ∙ ap (λ t. t ++ logged_of now.known.state round.lines) way.to_log;
          output = way.output;
          to_write = flat_map-append (λ r. r.output) way.kept (round ∷ [])
              ∙ ap (λ t. output_in way.kept ++ t) (append-nil round.output)
              ∙ ap (λ t. t ++ round.output) way.to_write;
        }

    -- something was read, and this is not answered then
    pub reads_on : (left : Option Text) (text : Text)
        → Consumes start.left left (received_in rounds ++ text)
        → IsUnderWay start (record now { left = left }) waiting text
    reads_on left text received = record {
      is_start = way.is_start;
      sent = way.sent;
      kept = way.kept;
      steps = way.steps;
      lines = way.lines;
      received = received;
      begins = way.begins;
      fine = way.fine;
      always = way.always;
      log = way.log;
      disk = way.disk;
      to_log = way.to_log;
      output = way.output;
      to_write = way.to_write;
    }

    pub received_more : (left : Option Text) (bytes : Text) → Consumes now.left left bytes
        → IsUnderWay start (record now { left = left }) waiting (more ++ bytes)
    received_more left bytes taken =
        reads_on left (more ++ bytes)
        (subst (Consumes start.left left) (append_assoc (received_in rounds) more bytes)
        (Consumes-trans start.left now.left left (received_in rounds ++ more) bytes way.received
        taken))

    -- that is the log after all rounds
    pub log_grown : IsLogAfter start.former start.first rounds whole_log
    log_grown =
        subst (λ t. IsLogAfter start.former start.first rounds (held.all ++ t)) way.to_log
        (log_more start.former start.first way.sent way.kept held.all way.log)

    -- what was sent was written, and the log holds that, or some of what waits besides
    sent_safe : (done : List Operation) → written_by done ≡ written_by now.done
        → IsPrefix held.all (cond start.sync (held_after done).synced (held_after done).all)
        → IsPrefix (held_after done).all whole_log → IsSafe start rounds done
    sent_safe done same logged within =
        inr (record {
          answered = way.sent;
          others = way.kept;
          parts = refl;
          written = prefix_of_same (written_by done)
              (output_of start.version start.former way.sent) (same ∙ way.output);
          log = held.all;
          is_log = way.log;
          logged = logged;
          nothing_else = subst (λ t. IsPrefix (held_after done).all (held.all ++ t))
              (sym way.to_log) within;
        })

    append_safe : (some : Text) → IsPrefix some waiting.logged
        → IsSafe start rounds (Append some ∷ now.done)
    append_safe some part =
        sent_safe (Append some ∷ now.done) refl
        (kept_while_appending start.sync held.all held.synced held.all some way.disk refl)
        (prefix_behind held.all some waiting.logged part)

    pub appends_safely : IsAlways (IsSafe start rounds) (Append waiting.logged ∷ now.done)
    appends_safely =
        append_always (IsSafe start rounds) now.done way.always waiting.logged append_safe

    sync_safe : IsSafe start rounds (Sync ∷ Append waiting.logged ∷ now.done)
    sync_safe =
        let begins : IsPrefix held.all whole_log = (waiting.logged, refl) in
        sent_safe (Sync ∷ Append waiting.logged ∷ now.done) refl
        (prefix_of_either start.sync held.all whole_log whole_log begins begins)
        (prefix_self whole_log)

    logs_safely : IsAlways (IsSafe start rounds) logged
    logs_safely =
        always_after_logging waiting.logged now.done (IsSafe start rounds) start.sync
        appends_safely sync_safe

    written_then : (some : Text) → written_by (Write some ∷ logged)
        ≡ output_of start.version start.former way.sent ++ some
    written_then some =
        ap (λ t. t ++ some)
        (written_after_logging waiting.logged now.done start.sync ∙ way.output)

    pub output_whole : output_of start.version start.former rounds
        ≡ output_of start.version start.former way.sent ++ waiting.output
    output_whole =
        output_more start.version start.former way.sent way.kept
        ∙ ap (λ t. output_of start.version start.former way.sent ++ t) way.to_write

    write_safe : (some : Text) → IsPrefix some waiting.output
        → IsSafe start rounds (Write some ∷ logged)
    write_safe some (rest, e) =
        let then_held = held_after logged in
        inr (record {
          answered = rounds;
          others = [];
          parts = sym (append-nil rounds);
          written = (
            rest,
            output_whole
                ∙ ap (λ t. output_of start.version start.former way.sent ++ t) e
                ∙ sym (append_assoc (output_of start.version start.former way.sent) some rest)
                ∙ ap (λ t. t ++ rest) (sym (written_then some)),
          );
          log = whole_log;
          is_log = log_grown;
          logged = prefix_of_same whole_log (cond start.sync then_held.synced then_held.all)
              (sym (kept_after_logging waiting.logged now.done start.sync));
          nothing_else = prefix_of_same then_held.all (whole_log ++ [])
              (all_after_logging waiting.logged now.done start.sync ∙ sym (append-nil whole_log));
        })

    pub writes_safely : IsAlways (IsSafe start rounds) (Write waiting.output ∷ logged)
    writes_safely =
        write_always (IsSafe start rounds) logged logs_safely waiting.output write_safe

    -- what waited was sent
    pub all_sent : IsUnderWay start (record now {
      done = sent_after start.sync waiting.logged waiting.output now.done;
    }) nothing more
    all_sent =
        let none = append-nil rounds in
        let all_is = all_after_logging waiting.logged now.done start.sync in
        record {
          is_start = way.is_start;
          sent = rounds;
          kept = [];
          steps = subst (AreSteps (known_first start) now.known) (sym none) way.steps;
          lines = subst AreLines (sym none) way.lines;
          received = subst (λ rs. Consumes start.left now.left (received_in rs ++ more)) (sym none)
              way.received;
          begins = begins_more start.bytes start.former (Write waiting.output) logged refl
              begins_logged;
          fine = (refl, fine_logged);
          always = subst (λ rs. IsAlways (IsSafe start rs) (Write waiting.output ∷ logged))
              (sym none) writes_safely;
          log = subst (IsLogAfter start.former start.first rounds) (sym all_is) log_grown;
          disk = kept_after_logging waiting.logged now.done start.sync ∙ sym all_is;
          to_log = refl;
          output = written_then waiting.output ∙ sym output_whole;
          to_write = refl;
        }

    -- an operation failed after these
    failed_after : (failure : Operation) (before done : List Operation) → done ≡ failure ∷ before
        → is_copy failure ≡ false → is_whole failure ≡ true
        → BeginsBy start.bytes start.former before → HasNoFailure before
        → IsAlways (IsSafe start rounds) before → IsSafe start rounds (failure ∷ before)
        → IsBrokenOff start (record now { done = done })
    failed_after failure before done e no_copy whole begins fine always safe =
        subst (λ ops. IsBrokenOff start (record now { done = ops })) (sym e) (record {
          known = now.known;
          rounds = rounds;
          more = more;
          steps = way.steps;
          lines = way.lines;
          received = way.received;
          begins = begins_more start.bytes start.former failure before no_copy begins;
          stops = fine;
          always = always_whole (IsSafe start rounds) before always failure whole safe;
        })

    -- an append failed
    append_broken : (done : List Operation) → IsAppendedInPart waiting.logged now.done done
        → IsBrokenOff start (record now { done = done })
    append_broken done (some, part, e) =
        let appended = Append some ∷ now.done in
        failed_after LogFailed appended done e refl refl
        (begins_more start.bytes start.former (Append some) now.done refl way.begins)
        (refl, way.fine)
        (append_always (IsSafe start rounds) now.done way.always some (λ less is.
        append_safe less (prefix_trans less some waiting.logged is part)))
        (log_failed_safe start rounds appended (append_safe some part))

    -- a sync failed
    unsynced_safe : start.sync ≡ true
        → IsSafe start rounds (Revert ∷ Append waiting.logged ∷ now.done)
    unsynced_safe synced =
        let same : held.synced ≡ held.all =
        subst (λ b. cond b held.synced held.all ≡ held.all) synced way.disk in
        let kept = prefix_of_same held.all held.synced (sym same) in
        sent_safe (Revert ∷ Append waiting.logged ∷ now.done) refl
        (prefix_of_either start.sync held.all held.synced held.synced kept kept)
        (waiting.logged, ap (λ t. t ++ waiting.logged) (sym same))

    sync_broken : (done : List Operation) → start.sync ≡ true
        → IsUnsynced waiting.logged now.done done
        → IsBrokenOff start (record now { done = done })
    sync_broken done synced failed =
        let appended = Append waiting.logged ∷ now.done in
        let begins = begins_more start.bytes start.former (Append waiting.logged) now.done refl
        way.begins in
        let whole = append_safe waiting.logged (prefix_self waiting.logged) in
        elim failed [
          | inl e ↦ failed_after LogFailed appended done e refl refl begins (refl, way.fine)
              appends_safely (log_failed_safe start rounds appended whole)
          | inr e ↦ failed_after Revert appended done e refl refl begins (refl, way.fine)
              appends_safely (unsynced_safe synced)
        ]

    -- a write failed
    write_broken : (done : List Operation) → IsWrittenInPart waiting.output logged done
        → IsBrokenOff start (record now { done = done })
    write_broken done (some, part, e) =
        let written = Write some ∷ logged in
        failed_after OutputFailed written done e refl refl
        (begins_more start.bytes start.former (Write some) logged refl begins_logged)
        (refl, fine_logged)
        (write_always (IsSafe start rounds) logged logs_safely some (λ less is.
        write_safe less (prefix_trans less some waiting.output is part)))
        (output_failed_safe start rounds written (write_safe some part))

    pub sent_in_part : (done : List Operation)
        → IsSentInPart start.sync waiting.logged waiting.output now.done done
        → IsBrokenOff start (record now { done = done })
    sent_in_part done (inl failed) = append_broken done failed
    sent_in_part done (inr (inl (synced, failed))) = sync_broken done synced failed
    sent_in_part done (inr (inr failed)) = write_broken done failed
