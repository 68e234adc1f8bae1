-- The histories and logs of conversations.
use Rattle.std.proofs.Common.{◌≡◌, ◌⊎◌, ◌<◌, ◌^◌, Bool, cond, List, [], ◌++◌, Option, Some, None, length, refl, sym, ap, ◌∙◌, subst, append-nil, append_assoc, length-append, inl, inr, arith}
use Rattle.std.proofs.lemmas.Grind.{flat_map-append}
use Rattle.redodb_model.specs.Names.{Text, texts}
use Rattle.redodb_model.specs.State.{empty}
use Rattle.redodb_model.specs.History.{Line, LegalFrom, left_by}
use Rattle.redodb_model.specs.Changes.{changing_from}
use Rattle.redodb_live.specs.Lines.{lines_text_of}
use Rattle.redodb_log.specs.Logs.{Past, past_lines, head_of, AreLogged, IsLogOf, IsPast, IsTornHead, IsTornHeader}
use Rattle.redodb_log.specs.Operations.{Operation, IsPrefix, IsAlways, held_after, written_by}
use Rattle.redodb_log.proofs.CutLogs.{cut_log}
use Rattle.redodb_log.proofs.Grown.{logged_prefix}
use Rattle.redodb_conversation.specs.Logs.{logged_of}
use Rattle.redodb_keeping.specs.Rounds.{Round, lines_in}
use Rattle.redodb_keeping.specs.Openings.{AreRestored}
use Rattle.redodb_conversation.specs.Talks.{Former, IsBegun, IsConversation, IsBase, IsFirstLog, IsLoggedFirst, IsTalk, found_in, found_log, history_of, lines_after, output_of, state_after}
use Rattle.redodb_conversation.specs.Support.Laws.{AreLoggedBy, IsLogBehind, IsLogUpTo, RestoresFormer, RestoresAnswered, logged_after}
use Rattle.redodb_conversation.specs.declared.keeping.Keeping.{Keeping}
use Rattle.redodb_keeping.proofs.EndedAll.{ends_are_rounds}
use Rattle.redodb_keeping.proofs.LawfulLines.{rounds_said, rounds_names}
use Rattle.redodb_conversation.proofs.Moments.{always_then, lines_after_more, prefix_trans, text_more}
use Rattle.redodb_conversation.proofs.LawfulLogs.{HasFirst, changing_fewer, changing_first, changing_leaves, changing_logged, cut_has, log_text, whole_log}

nothing_logged : AreLogged []
nothing_logged = record { legal = tt; said = tt; few_names = omega arith }

none_logged : (past : Past) (lines : List (Line Text)) → past ≡ None → lines ≡ []
    → IsPast past × AreLogged (past_lines past ++ lines)
none_logged past lines none no_lines = (
  subst IsPast (sym none) (record { logged = nothing_logged; dumped = tt }),
  subst (λ (p : Past). AreLogged (past_lines p ++ lines)) (sym none)
      (subst AreLogged (sym no_lines) nothing_logged),
)

-- restored lines can be logged
restored_logged : (salvage : Bool) (past : Past) (bytes : Text) (lines : List (Line Text))
    → AreRestored salvage past bytes lines → IsPast past × AreLogged (past_lines past ++ lines)
restored_logged salvage past bytes lines (inl (torn, is)) = (is.is_past, is.logged)
restored_logged salvage past bytes lines (inr (inl (torn, none, no_lines))) =
    none_logged past lines none no_lines
restored_logged salvage past bytes lines (inr (inr (may, inl (bad, none, no_lines)))) =
    none_logged past lines none no_lines
restored_logged salvage past bytes lines (inr (inr (may, inr is))) = (is.is_past, is.logged)

lines_in-append : (first others : List Round)
    → lines_in (first ++ others) ≡ lines_in first ++ lines_in others
lines_in-append first others = flat_map-append (λ (round : Round). round.lines) first others

-- what the rounds log that come after these
abbrev changing_in : Former → List Round → List Round → List (Line Text)
changing_in former before since = changing_from texts (state_after former before) (lines_in since)

-- what a log begins with is one of these lines after this past
record BeginsAs (former : Former) (before : List Round) (base : Text) : Type 0 where
  pub past : Past
  pub lines : List (Line Text)
  pub is_past : IsPast past
  pub text_is : base ≡ head_of past ++ lines_text_of lines
  pub history_is : lines_after former before ≡ past_lines past ++ lines

base_begins : (former : Former) (first base : Text) (before : List Round) → IsPast former.past
    → IsFirstLog former first → IsBase former first before base → BeginsAs former before base
base_begins former first base before is_past (inl e) (inl (none, same)) = record {
  past = former.past;
  lines = former.lines ++ lines_in former.ends;
  is_past = is_past;
  text_is = same ∙ e ∙ log_text (head_of former.past) former.lines (lines_in former.ends);
  history_is = ap (lines_after former) none ∙ append-nil (history_of former)
      ∙ append_assoc (past_lines former.past) former.lines (lines_in former.ends);
}
base_begins former first base before is_past (inr (dumped, e)) (inl (none, same)) = record {
  past = Some (history_of former);
  lines = [];
  is_past = dumped;
  text_is = same ∙ e ∙ sym (append-nil (head_of (Some (history_of former))));
  history_is = ap (lines_after former) none;
}
base_begins former first base before is_past is_first (inr (dumped, e)) = record {
  past = Some (lines_after former before);
  lines = [];
  is_past = dumped;
  text_is = e ∙ sym (append-nil (head_of (Some (lines_after former before))));
  history_is = sym (append-nil (lines_after former before));
}

module _ (former : Former) (before : List Round) (base : Text)
    (begun : BeginsAs former before base) (since : List Round)
  where
    -- the lines of the log after these rounds
    abbrev own_after : List (Line Text)
    own_after = begun.lines ++ changing_in former before since

    log_is : base ++ logged_of (state_after former before) (lines_in since)
        ≡ head_of begun.past ++ lines_text_of own_after
    log_is =
        ap (λ t. t ++ lines_text_of (changing_in former before since)) begun.text_is
        ∙ log_text (head_of begun.past) begun.lines (changing_in former before since)

    lines_are : logged_after former before since ≡ past_lines begun.past ++ own_after
    lines_are =
        ap (λ ls. ls ++ changing_in former before since) begun.history_is
        ∙ append_assoc (past_lines begun.past) begun.lines (changing_in former before since)

    log_of_all : (bytes : Text) → AreLogged (logged_after former before since)
        → bytes ≡ base ++ logged_of (state_after former before) (lines_in since)
        → IsLogOf begun.past bytes own_after []
    log_of_all bytes is e =
        whole_log begun.past bytes own_after begun.is_past (subst AreLogged lines_are is)
        (e ∙ log_is)

-- once the log before the first answer is there
module _ (version : Text) (former : Former) (rounds before since others : List Round)
    (base : Text) (begun : BeginsAs former before base)
    (parts : rounds ≡ (before ++ since) ++ others)
    (logged : AreLogged (logged_after former before (since ++ others)))
    (few : length (logged_after former before (since ++ others)) < 2 ^ 32)
  where
    abbrev own : List Round → List (Line Text)
    own some = own_after former before base begun some

    -- the log after rounds since it began with this
    abbrev log_since : List Round → Text
    log_since some = base ++ logged_of (state_after former before) (lines_in some)

    own_parts : (back : List (Line Text)) × (own (since ++ others) ≡ own since ++ back)
    own_parts =
        let state = state_after former before in
        let back = changing_first state begun.lines (lines_in since) (lines_in others) in (
          back.0,
          ap (λ ls. begun.lines ++ changing_from texts state ls) (lines_in-append since others)
              ∙ back.1,
        )

    left_has : (left : Text) → IsPrefix (log_since since) left
        → IsPrefix left (log_since (since ++ others))
        → HasFirst begun.past left (own (since ++ others)) (own since)
    left_has left begins cut =
        let (back, split) = own_parts in
        let all = since ++ others in
        cut_has begun.past (log_since all) left (own all) (own since) back
        (log_of_all former before base begun all (log_since all) logged refl)
        (subst (λ (ls : List (Line Text)). length ls < 2 ^ 32)
        (lines_are former before base begun all) few) cut split
        (subst (λ t. IsPrefix t left) (log_is former before base begun since) begins)

    log_behind : (written left : Text)
        → IsPrefix written (output_of version former (before ++ since))
        → HasFirst begun.past left (own (since ++ others)) (own since)
        → IsLogBehind version former rounds written left
    log_behind written left output found = record {
      before = before;
      since = since;
      others = others;
      parts = parts;
      output = output;
      lines = past_lines begun.past ++ found.lines;
      torn = found.torn;
      is_log = (begun.past, found.lines, found.is_log, refl);
      more = found.more;
      first = ap (λ ls. past_lines begun.past ++ ls) found.begins
          ∙ sym (append_assoc (past_lines begun.past) (own since) found.more)
          ∙ ap (λ ls. ls ++ found.more) (sym (lines_are former before base begun since));
      back = found.back;
      nothing_else = lines_are former before base begun (since ++ others)
          ∙ ap (λ ls. past_lines begun.past ++ ls) found.nothing_else
          ∙ sym (append_assoc (past_lines begun.past) found.lines found.back);
    }

module _ (keeping : Keeping) (version : Text) (former : Former) (rounds : List Round) (rest : Text)
    (input input_after : Option Text) (done : List Operation)
    (talk : IsTalk keeping version former rounds rest input input_after done)
  where
    found_logged : IsPast former.past × AreLogged (found_in former)
    found_logged =
        restored_logged keeping.salvage former.past talk.bytes former.lines talk.restored

    -- what its log begins with after some rounds
    begins_so : (before : List Round) (base : Text) → IsBase former talk.first before base
        → BeginsAs former before base
    begins_so before base = base_begins former talk.first base before found_logged.0 talk.is_first

    -- all lines of a conversation can be logged
    pub all_logged : AreLogged (lines_after former rounds)
    all_logged =
        let history = history_of former in
        let ends = ends_are_rounds (found_in former) former.ends talk.ended.are_ends in
        record {
          legal = talk.legal;
          said = rounds_said history rounds talk.are_rounds
              (rounds_said (found_in former) former.ends ends found_logged.1.said);
          few_names = rounds_names history rounds talk.are_rounds
              (rounds_names (found_in former) former.ends ends found_logged.1.few_names);
        }

    module _ (before since : List Round) (parts : rounds ≡ before ++ since) where
      all_are : lines_after former rounds ≡ lines_after former before ++ lines_in since
      all_are = ap (lines_after former) parts ∙ lines_after_more former before since

      pub logged : AreLogged (logged_after former before since)
      logged = changing_logged (lines_after former before) (lines_in since)
          (subst AreLogged all_are all_logged)

      pub leaves_state : left_by texts empty (logged_after former before since)
          ≡ left_by texts empty (lines_after former rounds)
      leaves_state =
          changing_leaves (lines_after former before) (lines_in since)
          (subst (LegalFrom texts empty) all_are talk.legal)
          ∙ ap (left_by texts empty) (sym all_are)

    pub logged_leave_state : (lines : List (Line Text)) → AreLoggedBy former rounds lines
        → left_by texts empty lines ≡ left_by texts empty (lines_after former rounds)
    logged_leave_state lines (before, since, parts, are) =
        ap (left_by texts empty) are ∙ leaves_state before since parts

    module _ (few : length (lines_after former rounds) < 2 ^ 32) (now : List Operation) where
      -- what was found, and the ends
      abbrev at_first : List (Line Text)
      at_first = former.lines ++ lines_in former.ends

      abbrev first_log : Text
      first_log = found_log former ++ lines_text_of (lines_in former.ends)

      is_first_log : IsLogOf former.past first_log at_first []
      is_first_log =
          whole_log former.past first_log at_first
          found_logged.0
          (subst AreLogged
          (append_assoc (past_lines former.past) former.lines (lines_in former.ends))
          (logged_prefix (history_of former) (lines_in rounds) all_logged))
          (log_text (head_of former.past) former.lines (lines_in former.ends))

      few_at_first : length (past_lines former.past ++ at_first) < 2 ^ 32
      few_at_first =
          subst (λ (ls : List (Line Text)). length ls < 2 ^ 32)
          (append_assoc (past_lines former.past) former.lines (lines_in former.ends))
          (omega (arith, few, length-append (history_of former) (lines_in rounds)))

      -- it has the lines that were found
      by_lines : written_by now ≡ []
          → HasFirst former.past (held_after now).all at_first former.lines
          → RestoresFormer keeping.salvage former now
      by_lines none_written found = record {
        written = none_written;
        lines = found.lines;
        restored = inl (found.torn, found.is_log);
        more = found.more;
        first = found.begins;
        back = found.back;
        nothing_else = found.nothing_else;
      }

      -- no lines were found
      by_none : written_by now ≡ [] → IsPrefix (held_after now).all first_log → former.past ≡ None
          → former.lines ≡ [] → RestoresFormer keeping.salvage former now
      by_none none_written (more, cut) no_past no_lines =
          let all = (held_after now).all in
          let torn_header : IsTornHead former.past all → IsTornHeader all =
          λ torn. subst (λ (p : Past). IsTornHead p all) no_past torn in
          elim (cut_log former.past first_log all more at_first is_first_log few_at_first cut) [
            | inl torn ↦ record {
              written = none_written;
              lines = [];
              restored = inr (inl (torn_header torn, no_past, refl));
              more = [];
              first = sym no_lines ∙ sym (append-nil former.lines);
              back = at_first;
              nothing_else = refl;
            }
            | inr (lines, back, torn, split, found) ↦ record {
              written = none_written;
              lines = lines;
              restored = inl (torn, found);
              more = lines;
              first = ap (λ ls. ls ++ lines) (sym no_lines);
              back = back;
              nothing_else = split;
            }
          ]

      -- before the greeting it restores what was restored
      begun_left : IsBegun talk.bytes former now → RestoresFormer keeping.salvage former now
      begun_left is = by is.nothing_else is.lines
        where
          by : ((held_after now).all ≡ talk.bytes) ⊎ IsPrefix (held_after now).all first_log
              → ((former.past ≡ None) × (former.lines ≡ []))
              ⊎ IsPrefix (found_log former) (held_after now).all
              → RestoresFormer keeping.salvage former now
          by (inl same) lines = record {
            written = is.written;
            lines = former.lines;
            restored = subst (λ t. AreRestored keeping.salvage former.past t former.lines)
                (sym same) talk.restored;
            more = [];
            first = sym (append-nil former.lines);
            back = lines_in former.ends;
            nothing_else = refl;
          }
          by (inr cut) (inl (no_past, no_lines)) = by_none is.written cut no_past no_lines
          by (inr cut) (inr begins) =
              by_lines is.written (cut_has former.past first_log (held_after now).all at_first
              former.lines (lines_in former.ends) is_first_log few_at_first cut refl begins)

      -- of the lines some may not be logged
      few_logged : (before since : List Round) → rounds ≡ before ++ since
          → length (logged_after former before since) < 2 ^ 32
      few_logged before since parts =
          let all_are : lines_after former rounds ≡ lines_after former before ++ lines_in since =
          ap (lines_after former) parts ∙ lines_after_more former before since in
          let fewer = changing_fewer (state_after former before) (lines_in since) in
          omega (
            arith,
            few,
            fewer,
            ap length all_are,
            length-append (lines_after former before) (lines_in since),
            length-append (lines_after former before) (changing_in former before since),
          )

      -- what is left of the log has what was answered
      answered_left : IsLoggedFirst keeping.sync version talk.first former rounds now
          → RestoresAnswered keeping.sync version former rounds now
      answered_left is left (sure, most) =
          let held = held_after now in
          let log = is.is_log in
          let parts : rounds ≡ (log.before ++ log.since) ++ is.others =
          is.parts ∙ ap (λ rs. rs ++ is.others) log.parts in
          let split : rounds ≡ log.before ++ (log.since ++ is.others) =
          parts ∙ append_assoc log.before log.since is.others in
          let begun = begins_so log.before log.base log.is_base in
          let own_logged = logged log.before (log.since ++ is.others) split in
          let own_few = few_logged log.before (log.since ++ is.others) split in
          log_behind version former rounds log.before log.since is.others log.base begun parts
          own_logged own_few (written_by now) left
          (subst (λ rs. IsPrefix (written_by now) (output_of version former rs)) log.parts
          is.written)
          (left_has version former rounds log.before log.since is.others log.base begun parts
          own_logged own_few left
          (subst (λ t. IsPrefix t left) log.log_is
          (prefix_trans is.log (cond keeping.sync held.synced held.all) left is.logged sure))
          (subst (IsPrefix left) (text_more former talk.first is.answered is.others is.log log)
          (prefix_trans left held.all
          (is.log ++ logged_of (state_after former is.answered) (lines_in is.others)) most
          is.nothing_else)))

      at_moment : IsBegun talk.bytes former now
          ⊎ IsLoggedFirst keeping.sync version talk.first former rounds now
          → RestoresFormer keeping.salvage former now
          ⊎ RestoresAnswered keeping.sync version former rounds now
      at_moment (inl is) = inl (begun_left is)
      at_moment (inr is) = inr (answered_left is)

    -- at each moment the log restores what was restored or answered
    pub always_restores : length (lines_after former rounds) < 2 ^ 32
        → IsAlways (λ now. RestoresFormer keeping.salvage former now
        ⊎ RestoresAnswered keeping.sync version former rounds now) done
    always_restores few = always_then _ _ (at_moment few) done talk.always

-- the log of a whole conversation is a log of its lines
pub restores_all : (keeping : Keeping) (version : Text) (former : Former) (rounds : List Round)
    (rest : Text) (input input_after : Option Text) (done : List Operation)
    → IsConversation keeping version former rounds rest input input_after done
    → (lines : List (Line Text)) × AreLoggedBy former rounds lines
    × IsLogUpTo (held_after done).all lines []
restores_all keeping version former rounds rest input input_after done is =
    let log = is.log in
    let begun = begins_so keeping version former rounds rest input input_after done is.talk log.before
    log.base log.is_base in (
      logged_after former log.before log.since,
      (log.before, log.since, log.parts, refl),
      (
        begun.past,
        own_after former log.before log.base begun log.since,
        log_of_all former log.before log.base begun log.since (held_after done).all
            (logged keeping version former rounds rest input input_after done is.talk log.before
            log.since log.parts) log.log_is,
        lines_are former log.before log.base begun log.since,
      ),
    )
