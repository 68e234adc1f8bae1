-- Logged lines: a prefix of them, and one more after them.
use Rattle.std.proofs.Common.{◌≡◌, ◌≤◌, List, [], ◌∷◌, ◌++◌, length, sym, ap, ◌∙◌, subst, arith, append-nil}
use Rattle.std.specs.List.{AllByRecursion, flat_map}
use Rattle.std.proofs.lemmas.Grind.{flat_map-append}
use Rattle.redodb_model.specs.Names.{Text, texts}
use Rattle.redodb_model.specs.State.{State, empty}
use Rattle.redodb_model.specs.Command.{names_in}
use Rattle.redodb_model.specs.Step.{Answers, after}
use Rattle.redodb_model.specs.History.{Line, LegalFrom, left_by}
use Rattle.redodb_model.proofs.OneMore.{legal_more}
use Rattle.redodb_text.specs.Grammar.{with_names, AddsNames}
use Rattle.redodb_text.proofs.ScriptParts.{with_names-append, with_names-longer}
use Rattle.redodb_history.specs.Support.HistoryTexts.{IsLineSaid}
use Rattle.redodb_history.proofs.RecordedLines.{all_more}
use Rattle.redodb_live.specs.Support.LiveState.{LiveState}
use Rattle.redodb_live.specs.Lines.{names_after}
use Rattle.redodb_log.specs.Logs.{AreLogged}
use Rattle.redodb_log.specs.Restores.{IsLeftBy}
use Rattle.redodb_log.specs.Support.Steps.{CanFollow}

abbrev pub own_names : Line Text → List Text
own_names line = names_in line.command

-- the names of more lines come after those before
pub names_after-append : (lines more : List (Line Text))
    → names_after (lines ++ more) ≡ with_names (names_after lines) (flat_map own_names more)
names_after-append lines more = ap (with_names []) (flat_map-append own_names lines more)
    ∙ with_names-append [] (flat_map own_names lines) (flat_map own_names more)

fewer_names : (lines more : List (Line Text))
    → length (names_after lines) ≤ length (names_after (lines ++ more))
fewer_names lines more =
    subst (λ (ns : List Text). length (names_after lines) ≤ length ns)
    (sym (names_after-append lines more))
    (with_names-longer (names_after lines) (flat_map own_names more))

pub all_parts : {X : Type 0} (P : X → Type 0) (xs ys : List X) → AllByRecursion P (xs ++ ys)
    → AllByRecursion P xs × AllByRecursion P ys
all_parts P [] ys h = (tt, h)
all_parts P (x ∷ xs) ys h = let rest = all_parts P xs ys h.1 in ((h.0, rest.0), rest.1)

pub legal_parts : (st : State Text) (lines more : List (Line Text))
    → LegalFrom texts st (lines ++ more) → LegalFrom texts st lines
    × LegalFrom texts (left_by texts st lines) more
legal_parts st [] more h = (tt, h)
legal_parts st (line ∷ lines) more h =
    let rest = legal_parts (after texts st line.session line.command) lines more h.1 in
    ((h.0, rest.0), rest.1)

pub logged_prefix : (lines more : List (Line Text)) → AreLogged (lines ++ more) → AreLogged lines
logged_prefix lines more is = record {
  legal = (legal_parts empty lines more is.legal).0;
  said = (all_parts (IsLineSaid 65535) lines more is.said).0;
  few_names = let fewer = fewer_names lines more in
      let few = is.few_names in omega arith;
}

-- one line more after logged lines, and the database that answered it
pub logged_more : (lines : List (Line Text)) (line : Line Text) (names : List Text)
    → AreLogged lines → IsLineSaid 65535 line
    → AddsNames 16777216 (names_after lines) (line.command ∷ []) names
    → Answers texts (left_by texts empty lines) line.session line.command line.reply
    → AreLogged (lines ++ line ∷ []) × (names ≡ names_after (lines ++ line ∷ []))
logged_more lines line names is said named answers =
    let same : names ≡ names_after (lines ++ line ∷ []) =
    named.0 ∙ sym (names_after-append lines (line ∷ [])) in (
      record {
        legal = legal_more texts empty lines line is.legal answers;
        said = all_more (IsLineSaid 65535) lines line is.said said;
        few_names = subst (λ (ns : List Text). length ns ≤ 16777216) same named.1;
      },
      same,
    )

-- the line after a prefix of logged lines can follow on what that leaves
pub can_follow : (lines others : List (Line Text)) (line : Line Text) (live : LiveState)
    → IsLeftBy lines live → AreLogged (lines ++ line ∷ others) → CanFollow live line
can_follow lines others line live left is =
    let added = with_names (names_after lines) (own_names line ++ []) in
    let more : names_after (lines ++ line ∷ others) ≡ with_names added (flat_map own_names others) =
    names_after-append lines (line ∷ others)
    ∙ with_names-append (names_after lines) (own_names line) (flat_map own_names others)
    ∙ ap
    (λ (ns : List Text). with_names (with_names (names_after lines) ns) (flat_map own_names others))
    (sym (append-nil (own_names line))) in
    let few : length (names_after (lines ++ line ∷ others)) ≤ 16777216 = is.few_names in
    let longer : length added ≤ length (with_names added (flat_map own_names others)) =
    with_names-longer added (flat_map own_names others) in
    let same : length (names_after (lines ++ line ∷ others))
    ≡ length (with_names added (flat_map own_names others)) = ap length more in
    record {
      said = (all_parts (IsLineSaid 65535) lines (line ∷ others) is.said).1.0;
      names = added;
      named = (
        ap (λ (ns : List Text). with_names ns (own_names line ++ [])) (sym left.names),
        omega arith,
      );
      answers = subst (λ (st : State Text). Answers texts st line.session line.command line.reply)
          (sym left.state) (legal_parts empty lines (line ∷ others) is.legal).1.0;
    }
