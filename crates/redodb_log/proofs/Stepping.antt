-- The lines of a log, one after another.
use Rattle.std.proofs.Common.{◌≡◌, ℕ, ◌+◌, ◌-◌, ◌≤◌, List, [], ◌∷◌, ◌++◌, length, refl, sym, ap, ◌∙◌, subst, arith, append-nil, append_assoc, length-append}
use Rattle.std.specs.Prelude.{Contains}
use Rattle.std.proofs.lemmas.List.{append_cancel_left}
use Rattle.std.proofs.lemmas.Grind.{flat_map-append}
use Rattle.redodb_model.specs.Names.{Text, texts}
use Rattle.redodb_model.specs.State.{State, empty}
use Rattle.redodb_model.specs.Step.{Answers, after}
use Rattle.redodb_model.specs.History.{Line}
use Rattle.redodb_model.proofs.OneMore.{left_by-append}
use Rattle.redodb_text.specs.Grammar.{AddsNames}
use Rattle.redodb_history.specs.Histories.{line_text_of}
use Rattle.redodb_history.proofs.HistoryReadsBack.{own_text_of}
use Rattle.redodb_history.proofs.TextCuts.{has_lf}
use Rattle.redodb_live.specs.Support.LiveState.{LiveState}
use Rattle.redodb_live.specs.Support.Appended.{IsWorn}
use Rattle.redodb_live.specs.Lines.{lines_text_of, names_after}
use Rattle.redodb_log.specs.Logs.{Past, past_lines, head_of, AreLogged, IsLogOf}
use Rattle.redodb_log.specs.Restores.{IsLeftBy, IsRestoredTo, DiffersBehind, IsRestoreCause, IsOfRoom, IsWithin}
use Rattle.redodb_log.specs.declared.restoring.RestoreFault.{RestoreFault}
use Rattle.redodb_log.specs.declared.restoring.RestoreFault.TheVariants.{Memory, Worn, State as NoState, Differs}
use Rattle.redodb_log.specs.Support.Steps.{BeginsAfter, NothingFollows, DoesNext, IsDoneUpTo}
use Rattle.redodb_log.proofs.Grown.{logged_more, can_follow}

-- a line's text ends with a line feed
pub text_has_lf : (line : Line Text) (rest : Text) → Contains (line_text_of line ++ rest) 10
text_has_lf line rest =
    let own = own_text_of line in
    subst (λ (t : Text). Contains t 10) (sym (append_assoc own (10 ∷ []) rest)) (has_lf own rest 10)

regrouped : (P : List (Line Text) → Type 0) (past : Past) (lines more : List (Line Text))
    → P (past_lines past ++ lines ++ more) → P (past_lines past ++ (lines ++ more))
regrouped P past lines more h = subst P (append_assoc (past_lines past) lines more) h

ungrouped : (P : List (Line Text) → Type 0) (past : Past) (lines more : List (Line Text))
    → P (past_lines past ++ (lines ++ more)) → P (past_lines past ++ lines ++ more)
ungrouped P past lines more h = subst P (sym (append_assoc (past_lines past) lines more)) h

-- if a text without line feeds is left, no lines are left
none_left : (others : List (Line Text)) (left torn : Text) → ¬ (Contains left 10)
    → left ≡ lines_text_of others ++ torn → others ≡ []
none_left [] left torn free e = refl
none_left (line ∷ others) left torn free e =
    absurd (free (subst (λ (t : Text). Contains t 10)
    (sym (e ∙ append_assoc (line_text_of line) (lines_text_of others) torn))
    (text_has_lf line (lines_text_of others ++ torn))))

left_by_more : (lines : List (Line Text)) (old new : LiveState) (left rest : Text)
    → IsLeftBy lines old → (next : DoesNext old new left rest)
    → new.names ≡ names_after (lines ++ next.line ∷ []) → IsLeftBy (lines ++ next.line ∷ []) new
left_by_more lines old new left rest by next named =
    let line = next.line in
    record {
      names = named;
      state = next.after_is
          ∙ ap (λ (st : State Text). after texts st line.session line.command) by.state
          ∙ sym (left_by-append texts empty lines (line ∷ []));
      calls = let calls = next.calls in
          let before = by.calls in
          let long = length-append lines (line ∷ []) in
          omega arith;
    }

-- a log of lines goes on from a line that is done
go_on : (past : Past) (log : Text) (lines all : List (Line Text)) (old new : LiveState)
    (left rest torn : Text) → IsLeftBy (past_lines past ++ lines) old
    → (next : DoesNext old new left rest) → IsLogOf past log all torn
    → (others : List (Line Text)) → all ≡ lines ++ others → left ≡ lines_text_of others ++ torn
    → (more : List (Line Text)) × (all ≡ (lines ++ next.line ∷ []) ++ more)
    × (rest ≡ lines_text_of more ++ torn)
go_on past log lines all old new left rest torn by next is [] whole e =
    absurd (is.free (subst (λ (t : Text). Contains t 10) (sym next.parts ∙ e)
    (text_has_lf next.line rest)))
go_on past log lines all old new left rest torn by next is (first ∷ more) whole e =
    let behind = lines_text_of more ++ torn in
    let begins : left ≡ line_text_of first ++ behind =
    e ∙ append_assoc (line_text_of first) (lines_text_of more) torn in
    let same : first ≡ next.line =
    next.only first behind
    (can_follow (past_lines past ++ lines) more first old by
    (ungrouped AreLogged past lines (first ∷ more)
    (subst (λ (l : List (Line Text)). AreLogged (past_lines past ++ l)) whole is.logged))) begins
    in (
      more,
      whole ∙ ap (λ (l : Line Text). lines ++ l ∷ more) same
          ∙ sym (append_assoc lines (next.line ∷ []) more),
      append_cancel_left (line_text_of next.line) rest behind (sym next.parts ∙ begins
          ∙ ap (λ (l : Line Text). line_text_of l ++ behind) same),
    )

text_more : (head : Text) (lines : List (Line Text)) (line : Line Text) (rest : Text)
    → head ++ lines_text_of lines ++ (line_text_of line ++ rest)
    ≡ head ++ lines_text_of (lines ++ line ∷ []) ++ rest
text_more head lines line rest =
    sym (append_assoc (head ++ lines_text_of lines) (line_text_of line) rest)
    ∙ ap (λ (t : Text). t ++ rest)
    (append_assoc head (lines_text_of lines) (line_text_of line)
    ∙ ap (λ (t : Text). head ++ t) (whole lines))
  where
    whole : (ls : List (Line Text)) → lines_text_of ls ++ line_text_of line
        ≡ lines_text_of (ls ++ line ∷ [])
    whole ls = ap (λ (t : Text). lines_text_of ls ++ t) (sym (append-nil (line_text_of line)))
        ∙ sym (flat_map-append line_text_of ls (line ∷ []))

-- a line has a byte at least
pub fewer_left : (old new : LiveState) (left rest : Text) → DoesNext old new left rest
    → 1 + length rest ≤ length left
fewer_left old new left rest next =
    let line = next.line in
    let parts = ap length next.parts ∙ length-append (line_text_of line) rest in
    let own = length-append (own_text_of line) (10 ∷ []) in
    omega arith

-- one line more
pub done_more : (past : Past) (log : Text) (lines : List (Line Text)) (old new : LiveState)
    (left rest : Text) → IsDoneUpTo past log lines old left → (next : DoesNext old new left rest)
    → IsDoneUpTo past log (lines ++ next.line ∷ []) new rest
done_more past log lines old new left rest is next =
    let line = next.line in
    let all = past_lines past ++ lines in
    let more = logged_more all line new.names is.logged next.said
    (subst (λ (ns : List Text). AddsNames 16777216 ns
    (line.command ∷ []) new.names) is.left_by.names
    next.named)
    (subst (λ (st : State Text). Answers texts st line.session line.command line.reply)
    is.left_by.state next.answers) in
    record {
      is_past = is.is_past;
      logged = regrouped AreLogged past lines (line ∷ []) more.0;
      left_by = regrouped (λ (l : List (Line Text)). IsLeftBy l new) past lines (line ∷ [])
          (left_by_more all old new left rest is.left_by next more.1);
      parts = is.parts ∙ ap (λ (t : Text). head_of past ++ lines_text_of lines ++ t) next.parts
          ∙ text_more (head_of past) lines line rest;
      only = λ all torn log_of. let (others, whole, e) = is.only all torn log_of in
          go_on past log lines all old new left rest torn is.left_by next log_of others whole e;
    }

-- before the first line
pub done_at_first : (past : Past) (log left : Text) (live : LiveState)
    → BeginsAfter past log left live → IsDoneUpTo past log [] live left
done_at_first past log left live is = record {
  is_past = is.is_past;
  logged = subst AreLogged (sym (append-nil (past_lines past))) is.is_past.logged;
  left_by = subst (λ (l : List (Line Text)). IsLeftBy l live)
      (sym (append-nil (past_lines past))) is.left_by;
  parts = is.parts ∙ ap (λ (t : Text). t ++ left) (sym (append-nil (head_of past)));
  only = λ all torn log_of. (
    all,
    refl,
    append_cancel_left (head_of past) left (lines_text_of all ++ torn)
        (sym is.parts ∙ log_of.parts ∙ append_assoc (head_of past) (lines_text_of all) torn),
  );
}

-- if no line is left, the lines are those of the log
pub done_all : (past : Past) (log left torn : Text) (lines all : List (Line Text))
    (live : LiveState) → IsDoneUpTo past log lines live left → ¬ (Contains left 10)
    → IsLogOf past log all torn → all ≡ lines
done_all past log left torn lines all live is free log_of =
    let (others, whole, e) = is.only all torn log_of in
    let none = none_left others left torn free e in
    whole ∙ ap (λ (l : List (Line Text)). lines ++ l) none ∙ append-nil lines

pub log_done : (past : Past) (log left : Text) (lines : List (Line Text)) (live : LiveState)
    → IsDoneUpTo past log lines live left → ¬ (Contains left 10) → IsLogOf past log lines left
log_done past log left lines live is free =
    record { is_past = is.is_past; logged = is.logged; parts = is.parts; free = free }

module _ (past : Past) (log left : Text) (lines : List (Line Text)) (live : LiveState)
    (is : IsDoneUpTo past log lines live left) (none : NothingFollows live left)
    (has : Contains left 10)
  where
    -- a line that can't be done can't be logged
    pub differs_behind : DiffersBehind past log lines
    differs_behind = record {
      is_past = is.is_past;
      logged = is.logged;
      left = left;
      parts = is.parts;
      has_line = has;
      differs = λ line rest e logged.
          none line rest (can_follow (past_lines past ++ lines) [] line live is.left_by
          (ungrouped AreLogged past lines (line ∷ []) logged)) e;
    }

    -- and the log is no log of lines
    pub no_log : (all : List (Line Text)) (torn : Text) → ¬ (IsLogOf past log all torn)
    no_log all torn log_of =
        let (others, whole, e) = is.only all torn log_of in by others whole e
      where
        by : (others : List (Line Text)) → all ≡ lines ++ others
            → left ≡ lines_text_of others ++ torn → ⊥
        by [] whole e = log_of.free (subst (λ (t : Text). Contains t 10) e has)
        by (line ∷ others) whole e =
            none line (lines_text_of others ++ torn)
            (can_follow (past_lines past ++ lines) others line live is.left_by
            (ungrouped AreLogged past lines (line ∷ others)
            (subst (λ (l : List (Line Text)). AreLogged (past_lines past ++ l)) whole
            log_of.logged)))
            (e ∙ append_assoc (line_text_of line) (lines_text_of others) torn)

-- what is left is a rest, and the part before it is counted
pub sizes : (past : Past) (log left : Text) (lines : List (Line Text)) (live : LiveState)
    → IsDoneUpTo past log lines live left
    → length log ≡ length (head_of past ++ lines_text_of lines) + length left
sizes past log left lines live is =
    ap length is.parts ∙ length-append (head_of past ++ lines_text_of lines) left

-- the cause of `Memory` or `Worn`
pub room_cause : (past : Past) (log left : Text) (lines : List (Line Text)) (live : LiveState)
    (fault : RestoreFault) → IsDoneUpTo past log lines live left → Contains left 10
    → IsOfRoom fault → (fault ≡ Worn → IsWorn live) → IsRestoreCause past log fault
room_cause past log left lines live Memory is has room worn = tt
room_cause past log left lines live Worn is has room worn =
    let long = worn refl in
    let calls = is.left_by.calls in
    let names = ap length is.left_by.names in
    (lines, left, is.logged, is.parts, (λ none. has), omega arith)
room_cause past log left lines live (NoState number) is has room worn = absurd room
room_cause past log left lines live (Differs number count size) is has room worn = absurd room

-- what is restored
pub restored_to : (past : Past) (log left first : Text) (lines : List (Line Text))
    (live : LiveState) (count : ℕ) → IsDoneUpTo past log lines live left
    → log ≡ head_of past ++ first → count ≡ length lines
    → IsRestoredTo past lines (record {
      live = live;
      lines = count;
      head = length log - length first;
      bytes = length log - length left;
    })
restored_to past log left first lines live count is begins counted =
    let size = sizes past log left lines live is in
    let whole = ap length begins ∙ length-append (head_of past) first in
    record {
      left = is.left_by;
      lines_are = counted;
      head_is = omega arith;
      bytes_are = omega arith;
    }

-- a fault of room says nothing of bytes
pub room_within : (size : ℕ) (fault : RestoreFault) → IsOfRoom fault → IsWithin size fault
room_within size (Differs number count bytes) room = absurd room
room_within size fault room = tt
