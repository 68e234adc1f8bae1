-- A log whose dump was loaded.
use Rattle.std.proofs.Common.{true≢false, ◌≡◌, ℕ, ◌≤◌, ◌+◌, ◌-◌, arith, length-append, Result, Ok, Err, [], List, ◌++◌, length, refl, sym, ap, ◌∙◌, subst, append-nil, append_assoc}
use Rattle.std.specs.Prelude.{◌==◌, ◌≢◌, drop, filter, take, Some, None, IfOk, IfErr}
use Rattle.std.proofs.Math.Seq.{take-append_seam, take-length}
use Rattle.std.proofs.lemmas.List.{append_cancel_left, length-drop, take-append-drop}
use Rattle.redodb_model.specs.Names.{Text, texts}
use Rattle.redodb_model.specs.State.{State, empty}
use Rattle.redodb_model.specs.History.{Line, left_by}
use Rattle.redodb_live.specs.Support.LiveState.{LiveState, state_in, calls_in}
use Rattle.redodb_live.specs.Lines.{lines_text_of, names_after}
use Rattle.redodb_dump.specs.Dumps.{HasCountsUpTo, IsDumped, IsStateOver, IsWorn, dump_of}
use Rattle.redodb_dump.proofs.OneDump.{one_dump}
use Rattle.redodb_log.specs.Logs.{AreLogged, header_words, log_header, dump_header, Past, head_of, HasPast, IsLogOf, IsPast, IsTornHeader}
use Rattle.redodb_log.specs.Restores.{HasTooMany, head_lines}
use Rattle.redodb_log.specs.Support.Steps.{BeginsAfter}
use Rattle.redodb_log.proofs.Counts.{counts_up_to}

-- what was loaded is what the past lines left
pub begins_dumped : (log text rest : Text) (lines : List (Line Text)) (live : LiveState) (size : ℕ)
    → log ≡ dump_header ++ text → IsPast (Some lines) → log ≡ head_of (Some lines) ++ rest
    → take size text ≡ dump_of live.names (state_in live)
    → IsStateOver live.names (state_in live)
    → ((most : ℕ) → HasCountsUpTo (state_in live) most → calls_in live ≤ most)
    → BeginsAfter (Some lines) log (drop size text) live
begins_dumped log text rest lines live size begins past has loaded over few =
    record {
      is_past = past;
      parts = has ∙ ap (λ (t : Text). head_of (Some lines) ++ t) (sym one.2);
      left_by = record {
        names = one.0;
        state = one.1;
        calls = few (length lines) (subst (λ (st : State Text). HasCountsUpTo st (length lines))
            (sym one.1) (counts_up_to lines));
      };
    }
  where
    dump : Text
    dump = dump_of (names_after lines) (left_by texts empty lines)

    whole : text ≡ dump ++ rest
    whole = append_cancel_left dump_header text (dump ++ rest)
        (sym begins ∙ has ∙ append_assoc dump_header dump rest)

    same : dump_of live.names (state_in live) ++ drop size text ≡ dump ++ rest
    same = ap (λ (t : Text). t ++ drop size text) (sym loaded) ∙ take-append-drop size text ∙ whole

    one : (live.names ≡ names_after lines) × (state_in live ≡ left_by texts empty lines)
        × (drop size text ≡ rest)
    one = one_dump live.names (names_after lines) (state_in live) (left_by texts empty lines)
        (drop size text) rest over past.dumped same

-- the bytes before the lines are those of the head
pub head_taken : (past : Past) (log lines : Text) → log ≡ head_of past ++ lines
    → take (length log - length lines) log ≡ head_of past
head_taken past log lines e =
    let size : length log - length lines ≡ length (head_of past) =
    (let whole = ap length e ∙ length-append (head_of past) lines in omega arith) in
    (λ i. take (size i) (e i)) ∙ take-append_seam (head_of past) lines

pub first_is : (past : Past) (log lines : Text) → log ≡ head_of past ++ lines
    → length (filter (λ byte. byte == 10) (take (length log - length lines) log)) + 1
    ≡ head_lines past + 1
first_is past log lines e =
    ap (λ (t : Text). length (filter (λ byte. byte == 10) t) + 1) (head_taken past log lines e)

-- the two headers differ in this byte
pub no_one : ◌≡◌ {A = ℕ} 49 50 → ⊥
no_one e = true≢false (ap (λ (n : ℕ). n == 49) e)

-- what a log begins with is its past
pub has_past : (past : Past) (log torn : Text) (lines : List (Line Text))
    → IsLogOf past log lines torn → HasPast past log
has_past None log torn lines is =
    λ rest e. absurd (no_one (let same = sym is.parts ∙ e in cc))
has_past (Some before) log torn lines is = (
  is.is_past,
  (
    lines_text_of lines ++ torn,
    is.parts ∙ append_assoc (head_of (Some before)) (lines_text_of lines) torn,
  ),
)

all_taken : (n : ℕ) (t : Text) → take (length t - n) (drop n t) ≡ drop n t
all_taken n t = (λ i. take (sym (length-drop n t) i) (drop n t)) ∙ take-length (drop n t)

-- the dump of what lines left is one
pub no_line : (log text : Text) → log ≡ dump_header ++ text
    → ((names : List Text) (st : State Text) (rest : Text) → IsDumped names st
    → text ≢ dump_of names st ++ rest)
    → (past : Past) → HasPast past log → ⊥
no_line log text begins none None has = has text begins
no_line log text begins none (Some lines) (past, (rest, e)) =
    let st = left_by texts empty lines in
    let dump = dump_of (names_after lines) st in
    none (names_after lines) st rest
    (record { over = past.dumped; few = past.logged.few_names })
    (append_cancel_left dump_header text (dump ++ rest)
    (sym begins ∙ e ∙ append_assoc dump_header dump rest))

-- lines that left so great counts are too many
pub too_many : (log text : Text) → log ≡ dump_header ++ text
    → ((names : List Text) (st : State Text) (rest : Text) → IsDumped names st
    → text ≡ dump_of names st ++ rest → IsWorn names st)
    → (past : Past) → HasPast past log → HasTooMany past log
too_many log text begins worn None has = absurd (has text begins)
too_many log text begins worn (Some lines) (past, (rest, e)) =
    let st = left_by texts empty lines in
    let dump = dump_of (names_after lines) st in
    let many =
    worn (names_after lines) st rest
    (record { over = past.dumped; few = past.logged.few_names })
    (append_cancel_left dump_header text (dump ++ rest)
    (sym begins ∙ e ∙ append_assoc dump_header dump rest))
    (length lines) (counts_up_to lines) in
    let all = append-nil lines in
    let count = ap length all in
    let names = ap (λ (ls : List (Line Text)). length (names_after ls)) all in (
      [],
      rest,
      subst AreLogged (sym all) past.logged,
      e ∙ ap (λ (t : Text). t ++ rest) (sym (append-nil (head_of (Some lines)))),
      (λ none. absurd cc),
      omega (arith, many, count, names),
    )

module _ (log text : Text) (live : LiveState) (size : ℕ) (begins : log ≡ dump_header ++ text)
    (loaded : take size text ≡ dump_of live.names (state_in live))
    (over : IsStateOver live.names (state_in live))
    (few : (most : ℕ) → HasCountsUpTo (state_in live) most → calls_in live ≤ most)
  where
    at_rest : (past : Past) → HasPast past log → BeginsAfter past log (drop size text) live
    at_rest None none = absurd (none text begins)
    at_rest (Some lines) (past, (rest, e)) =
        begins_dumped log text rest lines live size begins past e loaded over few

    pub begins_after : (past : Past) → HasPast past log
        → BeginsAfter past log (take (length text - size) (drop size text)) live
    begins_after past has = subst (λ (t : Text). BeginsAfter past log t live)
        (sym (all_taken size text)) (at_rest past has)

-- a log that begins with no dump
module _ (log lines : Text) (live : LiveState) (begins : log ≡ log_header ++ lines)
    (names : live.names ≡ []) (state : state_in live ≡ empty) (calls : calls_in live ≡ 0)
  where
    pub begins_plain : (past : Past) → HasPast past log → BeginsAfter past log lines live
    begins_plain None none = record {
      is_past = record {
        logged = record { legal = tt; said = tt; few_names = omega arith };
        dumped = tt;
      };
      parts = begins;
      left_by = record { names = names; state = state; calls = (let none = calls in omega arith) };
    }
    begins_plain (Some before) (past, (rest, e)) =
        absurd (no_one (let same = sym begins ∙ e in cc))

-- a torn header has no past
pub torn_has_none : (past : Past) (log : Text) → IsTornHeader log → HasPast past log
    → past ≡ None
torn_has_none None log torn has = refl
torn_has_none (Some before) log (more, torn) (past, (rest, e)) =
    absurd (no_one (let same : header_words ≡ head_of (Some before) ++ rest ++ more =
    torn ∙ ap (λ (t : Text). t ++ more) e in cc))

long_head : (past : Past) → 13 ≤ length (head_of past)
long_head None = omega arith
long_head (Some before) =
    let dump = dump_of (names_after before) (left_by texts empty before) in
    let size = length-append dump_header dump in omega arith

-- nor is it a log
pub torn_is_none : (past : Past) (log rest : Text) (lines : List (Line Text)) → IsTornHeader log
    → ¬ (IsLogOf past log lines rest)
torn_is_none past log rest lines (more, torn) is =
    let long = long_head past in
    let size = ap length is.parts in
    let own = length-append (head_of past ++ lines_text_of lines) rest in
    let first = length-append (head_of past) (lines_text_of lines) in
    let few : 12 ≡ length log + length more = ap length torn ∙ length-append log more in
    omega arith

-- nor has a log with another header
pub other_has_none : (past : Past) (log : Text) → ((rest : Text) → log ≢ dump_header ++ rest)
    → HasPast past log → past ≡ None
other_has_none None log other has = refl
other_has_none (Some before) log other (past, (rest, e)) =
    absurd (other (dump_of (names_after before) (left_by texts empty before) ++ rest)
    (e ∙ append_assoc dump_header (dump_of (names_after before) (left_by texts empty before)) rest))

pub ok_later : {T E : Type 0} (r : Result T E) (P Q : T → Type 0) → ((t : T) → P t → Q t)
    → IfOk r P → IfOk r Q
ok_later (Ok t) P Q f h = f t h
ok_later (Err e) P Q f h = tt

pub err_later : {T E : Type 0} (r : Result T E) (P Q : E → Type 0) → ((e : E) → P e → Q e)
    → IfErr r P → IfErr r Q
err_later (Ok t) P Q f h = tt
err_later (Err e) P Q f h = f e h
