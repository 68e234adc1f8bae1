-- What the log and the output hold at each moment from the log's read to the greeting.
use Rattle.std.proofs.Common.{◌≡◌, ◌⊎◌, Bool, true, false, cond, List, [], ◌∷◌, ◌++◌, Option, take, drop, refl, sym, ap, ◌∙◌, subst, append-nil, append_assoc, inl, inr}
use Rattle.std.specs.Prelude.{None}
use Rattle.std.proofs.KnownBytes.{Consumes-nil}
use Rattle.std.proofs.lemmas.List.{take-append-drop}
use Rattle.redodb_model.specs.Names.{Text}
use Rattle.redodb_live.specs.Lines.{lines_text_of}
use Rattle.redodb_live.specs.Support.LiveState.{calls_in}
use Rattle.redodb_log.specs.Logs.{Past}
use Rattle.redodb_log.specs.Restores.{IsDamagedAfter}
use Rattle.redodb_log.specs.Operations.{Operation, Read, Append, Cut, Sync, Copy, Replace, Write, LogFailed, OutputFailed, HasNoFailure, StopsAtFailure, held_after, written_by, IsPrefix, IsAlways}
use Rattle.redodb_keeping.specs.Rounds.{lines_in}
use Rattle.redodb_conversation.specs.Talks.{BeginsBy, IsLogAfter, found_log, greeting_of}
use Rattle.redodb_conversation.specs.Support.Moments.{Start, IsSafe, IsUnderWay}
use Rattle.redodb_keeping.specs.Support.Opening.{IsRest, after_cut}
use Rattle.redodb_conversation.specs.Support.Opening.{IsOpenedFrom, start_of}
use Rattle.redodb_keeping.specs.Support.Steps.{known_of}
use Rattle.redodb_conversation.specs.Support.Talking.{nothing}
use Rattle.redodb_conversation.specs.declared.opening.Opened.{Opened}
use Rattle.redodb_keeping.specs.declared.restoring.Rest.{Rest}
use Rattle.redodb_keeping.specs.declared.restoring.Rest.TheVariants.{Nothing, Torn, Damaged}
use Rattle.redodb_conversation.proofs.WholeOperations.{always_whole}
use Rattle.redodb_conversation.proofs.Moments.{begins_more, log_at_first, prefix_self, prefix_trans, append_always, write_always}

module _ (sync salvage : Bool) (version : Text) (past : Past) (bytes : Text) (opened : Opened)
    (is : IsOpenedFrom salvage version past bytes opened) (left : Option Text) (first : Text)
  where
    -- `first` is the log before the first answer
    abbrev start : Start
    start = start_of sync version bytes is.former first (calls_in opened.live) left

    abbrev kept : Text
    kept = take opened.bytes bytes

    -- what was found, and the ends
    abbrev whole : Text
    whole = found_log is.former ++ lines_text_of (lines_in is.former.ends)

    -- no line of the log is lost
    abbrev HasLines : Text → Type 0
    HasLines held =
        ((is.former.past ≡ None) × (is.former.lines ≡ [])) ⊎ IsPrefix (found_log is.former) held

    has_more_lines : (more : Text) → HasLines kept → HasLines (kept ++ more)
    has_more_lines more (inl none) = inl none
    has_more_lines more (inr (rest, e)) =
        inr (
          rest ++ more,
          ap (λ (t : Text). t ++ more) e
              ∙ append_assoc (found_log is.former) rest more,
        )

    -- the greeting was not begun, and the log holds this
    pub record HoldsBefore (held : Text) (done : List Operation) : Type 0 where
      always : IsAlways (IsSafe start []) done
      fine : HasNoFailure done
      written : written_by done ≡ []
      held_is : (held_after done).all ≡ held

    begun : (done : List Operation) (held : Text) → written_by done ≡ []
        → (held_after done).all ≡ held → HasLines held → (held ≡ bytes) ⊎ IsPrefix held whole
        → IsSafe start [] done
    begun done held written held_is lines nothing_else = inl (record {
      written = written;
      lines = subst HasLines (sym held_is) lines;
      nothing_else = subst (λ (t : Text). (t ≡ bytes) ⊎ IsPrefix t whole) (sym held_is)
          nothing_else;
    })

    abbrev read : List Operation
    read = Read bytes ∷ []

    lines_of_read : HasLines bytes
    lines_of_read = subst HasLines (take-append-drop opened.bytes bytes)
        (has_more_lines (drop opened.bytes bytes) is.lines)

    read_is_safe : IsAlways (IsSafe start []) read
    read_is_safe =
        always_whole (IsSafe start []) [] tt (Read bytes) refl
        (begun read bytes refl refl lines_of_read (inl refl))

    cut_begins : (done : List Operation) → IsAlways (IsSafe start []) done
        → HasNoFailure done → written_by done ≡ [] → (held_after done).all ≡ bytes
        → HoldsBefore kept (Cut opened.bytes ∷ done)
    cut_begins done always fine written held =
        let held_is : take opened.bytes (held_after done).all ≡ kept =
        ap (take opened.bytes) held in
        record {
          always = always_whole (IsSafe start []) done always (Cut opened.bytes) refl
              (begun (Cut opened.bytes ∷ done) kept written held_is is.lines
              (inr (opened.logged.items, sym is.log)));
          fine = (refl, fine);
          written = written;
          held_is = held_is;
        }

    -- a damaged log was copied and cut
    abbrev cut_copied : List Operation
    cut_copied = Cut opened.bytes ∷ Copy ∷ read

    is_cut_copied : HoldsBefore kept cut_copied
    is_cut_copied =
        cut_begins (Copy ∷ read)
        (always_whole (IsSafe start []) read read_is_safe Copy refl
        (begun (Copy ∷ read) bytes refl refl lines_of_read (inl refl)))
        (refl, (refl, tt)) refl refl

    -- the log is damaged, and the first that was done after the cut is that
    salvages : (synced : Operation) → IsDamagedAfter is.former.past bytes is.former.lines
        → (synced ≡ Sync) ⊎ (synced ≡ LogFailed) → BeginsBy bytes is.former (synced ∷ cut_copied)
    salvages synced damaged sync = record {
      later = synced ∷ Cut opened.bytes ∷ Copy ∷ [];
      begins = refl;
      salvaged = inl (
        damaged,
        record {
          size = opened.bytes;
          synced = synced;
          rest = [];
          are = refl;
          sync = sync;
          once = tt;
        },
      );
    }

    -- the sync after the cut failed
    pub settle_failed : IsDamagedAfter is.former.past bytes is.former.lines
        → BeginsBy bytes is.former (LogFailed ∷ cut_copied)
        × StopsAtFailure (LogFailed ∷ cut_copied)
        × IsAlways (IsSafe start []) (LogFailed ∷ cut_copied)
    settle_failed damaged = (
      salvages LogFailed damaged (inr refl),
      is_cut_copied.fine,
      always_whole (IsSafe start []) cut_copied is_cut_copied.always LogFailed refl
          (begun (LogFailed ∷ cut_copied) kept is_cut_copied.written is_cut_copied.held_is is.lines
          (inr (opened.logged.items, sym is.log))),
    )

    -- what comes after the lines that are kept was cut off
    cut_off : (rest : Rest) → IsRest is.former.past rest bytes kept is.former.lines
        → HoldsBefore kept (after_cut rest opened.bytes read)
    cut_off Nothing (same, not) = record {
      always = read_is_safe;
      fine = (refl, tt);
      written = refl;
      held_is = sym same;
    }
    cut_off Torn not = cut_begins read read_is_safe (refl, tt) refl refl
    cut_off Damaged damaged = record {
      always = always_whole (IsSafe start []) cut_copied is_cut_copied.always Sync refl
          (begun (Sync ∷ cut_copied) kept is_cut_copied.written is_cut_copied.held_is is.lines
          (inr (opened.logged.items, sym is.log)));
      fine = (refl, is_cut_copied.fine);
      written = is_cut_copied.written;
      held_is = is_cut_copied.held_is;
    }

    begins_by : (rest : Rest) → IsRest is.former.past rest bytes kept is.former.lines
        → BeginsBy bytes is.former (after_cut rest opened.bytes read)
    begins_by Nothing (same, not) = record { later = []; begins = refl; salvaged = inr (not, tt) }
    begins_by Torn not = record {
      later = Cut opened.bytes ∷ [];
      begins = refl;
      salvaged = inr (not, (refl, tt));
    }
    begins_by Damaged damaged = salvages Sync damaged (inl refl)

    abbrev cut : List Operation
    cut = after_cut opened.rest opened.bytes read

    is_cut : HoldsBefore kept cut
    is_cut = cut_off opened.rest is.rest

    begins_cut : BeginsBy bytes is.former cut
    begins_cut = begins_by opened.rest is.rest

    begins_appended : (part : Text) → BeginsBy bytes is.former (Append part ∷ cut)
    begins_appended part = begins_more bytes is.former (Append part) cut refl begins_cut

    -- a part of what comes to the log was appended
    appended_part : (part : Text) → IsPrefix part opened.logged.items
        → HoldsBefore (kept ++ part) (Append part ∷ cut)
    appended_part part (more, e) = record {
      always = append_always (IsSafe start []) cut is_cut.always part (λ first within.
          safe first (prefix_trans first part opened.logged.items within (more, e)));
      fine = (refl, is_cut.fine);
      written = is_cut.written;
      held_is = ap (λ (t : Text). t ++ part) is_cut.held_is;
    }
      where
        safe : (first : Text) → IsPrefix first opened.logged.items
            → IsSafe start [] (Append first ∷ cut)
        safe first (rest, f) =
            begun (Append first ∷ cut) (kept ++ first) is_cut.written
            (ap (λ (t : Text). t ++ first) is_cut.held_is) (has_more_lines first is.lines)
            (inr (
              rest,
              sym is.log ∙ ap (λ (t : Text). kept ++ t) f
                  ∙ sym (append_assoc kept first rest),
            ))

    -- after an operation that failed and changed nothing
    pub append_failed : (part : Text) → IsPrefix part opened.logged.items
        → BeginsBy bytes is.former (LogFailed ∷ Append part ∷ cut)
        × StopsAtFailure (LogFailed ∷ Append part ∷ cut)
        × IsAlways (IsSafe start []) (LogFailed ∷ Append part ∷ cut)
    append_failed part (more, e) =
        let at = appended_part part (more, e) in (
          begins_more bytes is.former LogFailed (Append part ∷ cut) refl (begins_appended part),
          at.fine,
          always_whole (IsSafe start []) (Append part ∷ cut) at.always LogFailed refl
              (begun (LogFailed ∷ Append part ∷ cut) (kept ++ part) at.written at.held_is
              (has_more_lines part is.lines)
              (inr (
                more,
                sym is.log ∙ ap (λ (t : Text). kept ++ t) e
                    ∙ sym (append_assoc kept part more),
              ))),
        )

    -- the greeting was not begun, the log is the first one, and may be synced now, or fail
    pub record HoldsFirst (done : List Operation) : Type 0 where
      before : HoldsBefore first done
      begins : BeginsBy bytes is.former done
      synced : IsSafe start [] (Sync ∷ done)
      failed : IsSafe start [] (LogFailed ∷ done)

    -- after a part of the greeting
    greeted_part : (done : List Operation) (part : Text) → IsPrefix part opened.greeting.items
        → written_by done ≡ part → (held_after done).all ≡ first
        → cond sync (held_after done).synced (held_after done).all ≡ first → IsSafe start [] done
    greeted_part done part (rest, e) written held disk = inr (record {
      answered = [];
      others = [];
      parts = refl;
      written = (
        rest,
        append-nil (greeting_of version is.former) ∙ sym is.greeting ∙ e
            ∙ ap (λ (t : Text). t ++ rest) (sym written),
      );
      log = first;
      is_log = log_at_first is.former first;
      logged = ([], disk ∙ sym (append-nil first));
      nothing_else = (
        [],
        append-nil first ∙ sym held ∙ sym (append-nil (held_after done).all),
      );
    })

    pub is_appended : first ≡ whole → HoldsFirst (Append opened.logged.items ∷ cut)
    is_appended e =
        let done = Append opened.logged.items ∷ cut in
        let at : HoldsBefore whole done = subst (λ (t : Text). HoldsBefore t done) is.log
        (appended_part opened.logged.items (prefix_self opened.logged.items)) in
        let lines : HasLines whole =
        subst HasLines is.log (has_more_lines opened.logged.items is.lines) in
        record {
          before = subst (λ (t : Text). HoldsBefore t done) (sym e) at;
          begins = begins_appended opened.logged.items;
          synced = begun (Sync ∷ done) whole at.written at.held_is lines (inr (prefix_self whole));
          failed =
              begun (LogFailed ∷ done) whole at.written at.held_is lines (inr (prefix_self whole));
        }

    -- before the greeting, where all that the log holds is on the disk
    nothing_greeted : (done : List Operation) → written_by done ≡ []
        → (held_after done).all ≡ first → (held_after done).synced ≡ first → IsSafe start [] done
    nothing_greeted done written all synced =
        greeted_part done [] (opened.greeting.items, refl) written all (by sync)
      where
        by : (b : Bool) → cond b (held_after done).synced (held_after done).all ≡ first
        by true = synced
        by false = all

    pub is_replaced : (dump : Text) → first ≡ dump → HoldsFirst (Replace dump ∷ cut)
    is_replaced dump e =
        let done = Replace dump ∷ cut in
        record {
          before = record {
            always = always_whole (IsSafe start []) cut is_cut.always (Replace dump) refl
                (nothing_greeted done is_cut.written (sym e) (sym e));
            fine = (refl, is_cut.fine);
            written = is_cut.written;
            held_is = sym e;
          };
          begins = begins_more bytes is.former (Replace dump) cut refl begins_cut;
          synced = nothing_greeted (Sync ∷ done) is_cut.written (sym e) (sym e);
          failed = nothing_greeted (LogFailed ∷ done) is_cut.written (sym e) (sym e);
        }

    module _ (gone : List Operation) (at : HoldsFirst gone) where
      -- the log failed when it was to be synced
      pub sync_failed : BeginsBy bytes is.former (LogFailed ∷ gone)
          × StopsAtFailure (LogFailed ∷ gone) × IsAlways (IsSafe start []) (LogFailed ∷ gone)
      sync_failed = (
        begins_more bytes is.former LogFailed gone refl at.begins,
        at.before.fine,
        always_whole (IsSafe start []) gone at.before.always LogFailed refl at.failed,
      )

      synced : HoldsBefore first (Sync ∷ gone)
      synced = record {
        always = always_whole (IsSafe start []) gone at.before.always Sync refl at.synced;
        fine = (refl, at.before.fine);
        written = at.before.written;
        held_is = at.before.held_is;
      }

      abbrev ready_if : Bool → List Operation
      ready_if b = cond b (Sync ∷ gone) gone

      abbrev ready : List Operation
      ready = ready_if sync

      -- what it holds before the greeting is on the disk, if that is asked
      ready_by : (b : Bool) → HoldsBefore first (ready_if b) × BeginsBy bytes is.former (ready_if b)
          × (cond b (held_after (ready_if b)).synced (held_after (ready_if b)).all ≡ first)
      ready_by true = (
        synced,
        begins_more bytes is.former Sync gone refl at.begins,
        at.before.held_is,
      )
      ready_by false = (at.before, at.begins, at.before.held_is)

      is_ready : HoldsBefore first ready
      is_ready = (ready_by sync).0

      begins_written : (part : Text) → BeginsBy bytes is.former (Write part ∷ ready)
      begins_written part = begins_more bytes is.former (Write part) ready refl (ready_by sync).1

      on_disk : cond sync (held_after ready).synced (held_after ready).all ≡ first
      on_disk = (ready_by sync).2

      abbrev writes : Text → List Operation
      writes part = Write part ∷ ready

      written_is : (part : Text) → written_by (writes part) ≡ part
      written_is part = ap (λ (t : Text). t ++ part) is_ready.written

      written_always : (part : Text) → IsPrefix part opened.greeting.items
          → IsAlways (IsSafe start []) (writes part)
      written_always part is_part =
          write_always (IsSafe start []) ready is_ready.always part (λ some within.
          greeted_part (writes some) some
          (prefix_trans some part opened.greeting.items within is_part) (written_is some)
          is_ready.held_is on_disk)

      pub write_failed : (part : Text) → IsPrefix part opened.greeting.items
          → BeginsBy bytes is.former (OutputFailed ∷ writes part)
          × StopsAtFailure (OutputFailed ∷ writes part)
          × IsAlways (IsSafe start []) (OutputFailed ∷ writes part)
      write_failed part is_part = (
        begins_more bytes is.former OutputFailed (writes part) refl (begins_written part),
        (refl, is_ready.fine),
        always_whole (IsSafe start []) (writes part) (written_always part is_part) OutputFailed refl
            (greeted_part (OutputFailed ∷ writes part) part is_part (written_is part)
            is_ready.held_is on_disk),
      )

      pub greeted : IsUnderWay start
          (record { known = known_of opened.live; left = left; done = writes opened.greeting.items })
          nothing []
      greeted = record {
        is_start = record {
          led = record {
            legal = is.left.legal;
            names_are = refl;
            state_is = refl;
            few_calls = is.left.few_calls;
          };
          logged = is.logged;
        };
        sent = [];
        kept = [];
        steps = λ i. record {
          names = is.left.names_are i;
          state = is.left.state_is i;
          calls = calls_in opened.live;
        };
        lines = tt;
        received = Consumes-nil left;
        begins = begins_written opened.greeting.items;
        fine = (refl, is_ready.fine);
        always = written_always opened.greeting.items (prefix_self opened.greeting.items);
        log = subst (IsLogAfter is.former first []) (sym is_ready.held_is)
            (log_at_first is.former first);
        disk = on_disk ∙ sym is_ready.held_is;
        to_log = refl;
        output = written_is opened.greeting.items ∙ is.greeting
            ∙ sym (append-nil (greeting_of version is.former));
        to_write = refl;
      }
