-- Logs without the lines that change nothing, and what is left of them.
use Rattle.std.proofs.Common.{◌≡◌, ◌⊎◌, ◌+◌, ◌<◌, ◌≤◌, ◌^◌, Bool, true, false, cond, List, [], ◌∷◌, ◌++◌, length, refl, sym, ap, ◌∙◌, subst, append-nil, append_assoc, inl, inr, arith}
use Rattle.std.specs.Prelude.{Contains}
use Rattle.std.specs.List.{AllByRecursion, flat_map}
use Rattle.std.proofs.lemmas.Grind.{flat_map-append}
use Rattle.std.proofs.lemmas.List.{append_cancel_left}
use Rattle.redodb_model.specs.Names.{Text, texts}
use Rattle.redodb_model.specs.State.{State, empty}
use Rattle.redodb_model.specs.Step.{after}
use Rattle.redodb_model.specs.History.{Line, LegalFrom, left_by}
use Rattle.redodb_model.specs.Changes.{changes, changing_from}
use Rattle.redodb_model.proofs.Members.{contains_none}
use Rattle.redodb_model.proofs.OneMore.{left_by-append, legal_both}
use Rattle.redodb_model.proofs.Texts.{texts_are_names}
use Rattle.redodb_model.proofs.Unchanging.{changing_from-append, changing_legal}
use Rattle.redodb_history.specs.Histories.{line_text_of}
use Rattle.redodb_history.specs.Support.HistoryTexts.{IsLineSaid}
use Rattle.redodb_history.proofs.DistinctNames.{few_known}
use Rattle.redodb_history.proofs.KnownNames.{IsKnown}
use Rattle.redodb_live.specs.Lines.{lines_text_of, names_after}
use Rattle.redodb_live.proofs.Lines.{all_both}
use Rattle.redodb_log.specs.Logs.{Past, past_lines, head_of, AreLogged, IsLogOf, IsPast}
use Rattle.redodb_log.specs.Operations.{IsPrefix}
use Rattle.redodb_log.proofs.CutLogs.{IsCutLog, cut_behind}
use Rattle.redodb_log.proofs.Grown.{all_parts, legal_parts, own_names}
use Rattle.redodb_log.proofs.Stepping.{text_has_lf}
use Rattle.redodb_keeping.proofs.LawfulLines.{OfNames, all_names, names_known}

one_changing : (P : Line Text → Type 0) (b : Bool) (line : Line Text) (lines : List (Line Text))
    → P line → AllByRecursion P lines → AllByRecursion P (cond b (line ∷ []) [] ++ lines)
one_changing P true line lines p h = (p, h)
one_changing P false line lines p h = h

all_changing : (P : Line Text → Type 0) (st : State Text) (lines : List (Line Text))
    → AllByRecursion P lines → AllByRecursion P (changing_from texts st lines)
all_changing P st [] h = tt
all_changing P st (line ∷ lines) h =
    one_changing P (changes st.records line.command line.reply) line
    (changing_from texts (after texts st line.session line.command) lines) h.0
    (all_changing P (after texts st line.session line.command) lines h.1)

one_fewer : (b : Bool) (line : Line Text) (lines : List (Line Text))
    → length (cond b (line ∷ []) [] ++ lines) ≤ length lines + 1
one_fewer true line lines = omega arith
one_fewer false line lines = omega arith

-- no more lines change something than there are
pub changing_fewer : (st : State Text) (lines : List (Line Text))
    → length (changing_from texts st lines) ≤ length lines
changing_fewer st [] = omega arith
changing_fewer st (line ∷ lines) =
    let next = after texts st line.session line.command in
    omega (
      arith,
      one_fewer (changes st.records line.command line.reply) line (changing_from texts next lines),
      changing_fewer next lines,
    )

-- these lines, and those of the others that change something
abbrev pub and_changing : List (Line Text) → List (Line Text) → List (Line Text)
and_changing before more = before ++ changing_from texts (left_by texts empty before) more

module _ (before more : List (Line Text)) where
  all_and_changing : (P : Line Text → Type 0) → AllByRecursion P (before ++ more)
      → AllByRecursion P (and_changing before more)
  all_and_changing P h =
      let parts = all_parts P before more h in
      all_both P before (changing_from texts (left_by texts empty before) more) parts.0
      (all_changing P (left_by texts empty before) more parts.1)

  few_names : length (names_after (before ++ more)) ≤ 16777216
      → length (names_after (and_changing before more)) ≤ 16777216
  few_names few =
      let names = names_after (before ++ more) in
      let fewer = few_known names (flat_map own_names (and_changing before more))
      (all_names (IsKnown names) (and_changing before more)
      (all_and_changing (OfNames (IsKnown names)) (names_known (before ++ more)))) in
      omega (arith, fewer, few)

  -- without lines that change nothing, logged lines can be logged
  pub changing_logged : AreLogged (before ++ more) → AreLogged (and_changing before more)
  changing_logged is =
      let st = left_by texts empty before in
      let parts = legal_parts empty before more is.legal in
      record {
        legal = legal_both texts empty before (changing_from texts st more) parts.0
            (changing_legal texts_are_names st more parts.1).0;
        said = all_and_changing (IsLineSaid 65535) is.said;
        few_names = few_names is.few_names;
      }

  -- and leave the same state
  pub changing_leaves : LegalFrom texts empty (before ++ more)
      → left_by texts empty (and_changing before more) ≡ left_by texts empty (before ++ more)
  changing_leaves legal =
      let st = left_by texts empty before in
      let parts = legal_parts empty before more legal in
      left_by-append texts empty before (changing_from texts st more)
      ∙ (changing_legal texts_are_names st more parts.1).1
      ∙ sym (left_by-append texts empty before more)

-- the lines of a first part are the first lines
pub changing_first : (st : State Text) (before first others : List (Line Text))
    → (back : List (Line Text)) × (before ++ changing_from texts st (first ++ others)
    ≡ (before ++ changing_from texts st first) ++ back)
changing_first st before first others =
    let back = changing_from texts (left_by texts st first) others in (
      back,
      ap (λ ls. before ++ ls) (changing_from-append texts st first others)
          ∙ sym (append_assoc before (changing_from texts st first) back),
    )

-- the text of a log
pub log_text : (head : Text) (lines more : List (Line Text))
    → head ++ lines_text_of lines ++ lines_text_of more ≡ head ++ lines_text_of (lines ++ more)
log_text head lines more =
    append_assoc head (lines_text_of lines) (lines_text_of more)
    ∙ ap (λ t. head ++ t) (sym (flat_map-append line_text_of lines more))

pub whole_log : (past : Past) (bytes : Text) (lines : List (Line Text)) → IsPast past
    → AreLogged (past_lines past ++ lines) → bytes ≡ head_of past ++ lines_text_of lines
    → IsLogOf past bytes lines []
whole_log past bytes lines is_past is e = record {
  is_past = is_past;
  logged = is;
  parts = e ∙ sym (append-nil (head_of past ++ lines_text_of lines));
  free = contains_none 10;
}

-- of two beginnings of a list one comes first
first_of : {X : Type 0} (a b c d : List X) → a ++ b ≡ c ++ d
    → ((m : List X) × (a ≡ c ++ m)) ⊎ ((m : List X) × (c ≡ a ++ m))
first_of [] b c d e = inr (c, refl)
first_of (x ∷ a) b [] d e = inl (x ∷ a, refl)
first_of (x ∷ a) b (y ∷ c) d e =
    let head : x ≡ y = cc in
    let rest : a ++ b ≡ c ++ d = cc in
    elim (first_of a b c d rest) [
      | inl h ↦ inl (h.0, λ i. head i ∷ h.1 i)
      | inr h ↦ inr (h.0, λ i. sym head i ∷ h.1 i)
    ]

-- of a log that has the text of the first lines, the lines begin with them
pub begins_with : (past : Past) (bytes torn : Text) (lines back first others : List (Line Text))
    → IsLogOf past bytes lines torn → lines ++ back ≡ first ++ others
    → IsPrefix (head_of past ++ lines_text_of first) bytes
    → (more : List (Line Text)) × (lines ≡ first ++ more)
begins_with past bytes torn lines back first others is e (rest, begins) =
    by (first_of lines back first others e)
  where
    by_more : (m : List (Line Text)) → first ≡ lines ++ m
        → (more : List (Line Text)) × (lines ≡ first ++ more)
    by_more [] same = ([], sym (append-nil lines) ∙ sym same ∙ sym (append-nil first))
    by_more (line ∷ ls) same =
        let head = head_of past in
        let behind = lines_text_of ls in
        let whole : head ++ lines_text_of lines ++ torn
        ≡ head ++ lines_text_of lines ++ (lines_text_of (line ∷ ls) ++ rest) =
        sym is.parts ∙ begins ∙ ap (λ x. head ++ lines_text_of x ++ rest) same
        ∙ ap (λ t. t ++ rest) (sym (log_text head lines (line ∷ ls)))
        ∙ append_assoc (head ++ lines_text_of lines) (lines_text_of (line ∷ ls)) rest in
        let torn_is : torn ≡ line_text_of line ++ (behind ++ rest) =
        append_cancel_left (head ++ lines_text_of lines) torn
        (lines_text_of (line ∷ ls) ++ rest) whole
        ∙ append_assoc (line_text_of line) behind rest in
        absurd (is.free (subst (λ (t : Text). Contains t 10) (sym torn_is)
        (text_has_lf line (behind ++ rest))))

    by : ((m : List (Line Text)) × (lines ≡ first ++ m))
        ⊎ ((m : List (Line Text)) × (first ≡ lines ++ m))
        → (more : List (Line Text)) × (lines ≡ first ++ more)
    by (inl found) = found
    by (inr (m, same)) = by_more m same

-- what is left of a log with at least these first lines is a log of them, and maybe of more
pub record HasFirst (past : Past) (bytes : Text) (all first : List (Line Text)) : Type 0 where
  pub lines : List (Line Text)
  pub torn : Text
  pub is_log : IsLogOf past bytes lines torn
  pub more : List (Line Text)
  pub begins : lines ≡ first ++ more
  pub back : List (Line Text)
  pub nothing_else : all ≡ lines ++ back

module _ (past : Past) (whole bytes : Text) (all first others : List (Line Text))
    (is : IsLogOf past whole all []) (few : length (past_lines past ++ all) < 2 ^ 32)
    (parts : all ≡ first ++ others) (rest left : Text) (cut : whole ≡ bytes ++ rest)
    (begins : bytes ≡ head_of past ++ lines_text_of first ++ left)
  where
    abbrev more : Text
    more = lines_text_of first ++ left

    left_is : bytes ≡ head_of past ++ more
    left_is = begins ∙ append_assoc (head_of past) (lines_text_of first) left

    split_after : lines_text_of all ≡ more ++ rest
    split_after =
        append_cancel_left (head_of past) (lines_text_of all) (more ++ rest)
        (sym (append-nil (head_of past ++ lines_text_of all)) ∙ sym is.parts ∙ cut
        ∙ ap (λ (t : Text). t ++ rest) left_is ∙ append_assoc (head_of past) more rest)

    found_first : IsCutLog past bytes all → HasFirst past bytes all first
    found_first (lines, back, torn, split, found) =
        let others_are = begins_with past bytes torn lines back first others found
        (sym split ∙ parts) (left, begins) in
        record {
          lines = lines;
          torn = torn;
          is_log = found;
          more = others_are.0;
          begins = others_are.1;
          back = back;
          nothing_else = split;
        }

    cut_has_first : HasFirst past bytes all first
    cut_has_first =
        found_first
        (cut_behind past bytes more rest all is.is_past is.logged few left_is split_after)

pub cut_has : (past : Past) (whole bytes : Text) (all first others : List (Line Text))
    → IsLogOf past whole all [] → length (past_lines past ++ all) < 2 ^ 32 → IsPrefix bytes whole
    → all ≡ first ++ others → IsPrefix (head_of past ++ lines_text_of first) bytes
    → HasFirst past bytes all first
cut_has past whole bytes all first others is few (rest, cut) parts (left, begins) =
    cut_has_first past whole bytes all first others is few parts rest left cut begins
