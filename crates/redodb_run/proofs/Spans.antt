-- The spans of a text, as it grows.
use Rattle.std.proofs.Common.{◌≡◌, ℕ, ◌+◌, ◌-◌, ◌*◌, ◌<◌, ◌≤◌, List, [], ◌∷◌, ◌++◌, sym, ap, subst, ◌∙◌, length, length-append, get_or, take, drop, arith, get_or-take, get_or-drop, length-drop, zero-add}
use mathlib.Core.Logic.{dite}
use native.Mathlib.Decide.{ℕ_discrete}
use Rattle.std.specs.Fork.{slice_chunk}
use Rattle.std.proofs.lemmas.List.{take-append-le, drop-append-le, get_or_append_left, get_or_push, get_or_read, get_or_default}
use Rattle.redodb_model.specs.Names.{Text}
use Rattle.redodb_model.specs.History as histories
use Rattle.redodb_commands.specs.Meaning.{line_at}
use Rattle.redodb_commands.specs.declared.reply.Line.{Line}
use Rattle.redodb_run.specs.Support.Lines.{IsAnswerAt, AreAnswersAt}
use Rattle.redodb_run.specs.declared.lines.Span.{Span}

-- more text leaves a line's answer where it is
pub kept_answer : (text more : Text) (line : histories.Line Text) (span : Span)
    → IsAnswerAt text line span → IsAnswerAt (text ++ more) line span
kept_answer text more line span is =
    let ordered = is.ordered in
    let within = is.within in
    let long = length-append text more in
    let left = length-drop span.start text in record {
      ordered = ordered;
      within = omega arith;
      shown =
          ap (take (span.end - span.start)) (drop-append-le span.start text more (omega arith))
          ∙ take-append-le (span.end - span.start) (drop span.start text) more (omega arith)
          ∙ is.shown;
    }

-- one line more
module _ (names : List Text) (old new more : Text) (longer : new ≡ old ++ more) (lines : List Line)
    (spans : List Span) (line : Line) (span : Span) (less : length spans < length lines)
    (is : line ≡ get_or lines (length spans) line)
    (answer : IsAnswerAt new (line_at names line) span)
    (are : AreAnswersAt names old lines 0 spans) where
  last_answer : (n : ℕ) → n ≡ length spans → (l : Line) (s : Span) → l ≡ get_or lines n l
      → s ≡ get_or (spans ++ span ∷ []) n s → IsAnswerAt new (line_at names l) s
  last_answer n last l s line_is span_is =
      let own : line ≡ l =
      get_or_read lines (length spans) line less is l ∙ ap (λ (k : ℕ). get_or lines k l) (sym last)
      ∙ sym line_is in
      subst (λ (x : Line). IsAnswerAt new (line_at names x) s) own
      (subst (IsAnswerAt new (line_at names line))
      (sym (span_is ∙ get_or_push spans span s n (sym last))) answer)

  pub more_answers : AreAnswersAt names new lines 0 (spans ++ span ∷ [])
  more_answers n l s here line_is span_is = dite (ℕ_discrete n (length spans))
      (λ last. last_answer n last l s
      (line_is ∙ ap (λ (k : ℕ). get_or lines k l) (zero-add n)) span_is)
      (λ other.
      let long = length-append spans (span ∷ []) in
      let before : n < length spans = omega arith in
      subst (λ (t : Text). IsAnswerAt t (line_at names l) s) (sym longer)
      (kept_answer old more (line_at names l) s
      (are n l s before line_is (span_is ∙ get_or_append_left spans (span ∷ []) s n before))))

-- the answer of a line, at whatever default its span is read
pub answer_here : (names : List Text) (text : Text) (lines : List Line) (from : ℕ)
    (spans : List Span) → AreAnswersAt names text lines from spans → (n : ℕ) (line : Line)
    → n < length spans → line ≡ get_or lines (from + n) line → (d : Span)
    → IsAnswerAt text (line_at names line) (get_or spans n d)
answer_here names text lines from spans are n line less is d =
    are n line (get_or spans n d) less is (get_or_default spans n d (get_or spans n d) less)

-- the answers of a chunk are those of the lines from its first one on
pub chunk_answers : (names : List Text) (text : Text) (lines : List Line) (size n from : ℕ)
    (spans : List Span) → length spans ≤ size → (0 < length spans → from ≡ n * size)
    → AreAnswersAt names text (slice_chunk lines size n) 0 spans
    → AreAnswersAt names text lines from spans
chunk_answers names text lines size n from spans few start are k line span less line_is span_is =
    are k line span less
    (line_is ∙ ap (λ (m : ℕ). get_or lines (m + k) line) (start (omega arith))
    ∙ sym (get_or-drop (n * size) lines k line)
    ∙ sym (get_or-take size (drop (n * size) lines) k line (omega arith))
    ∙ ap (λ (m : ℕ). get_or (slice_chunk lines size n) m line) (sym (zero-add k)))
    span_is
