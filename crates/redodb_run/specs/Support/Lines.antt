-- Lines of a history that are printed, and where a text has their commands and replies.
use Rattle.std.specs.Prelude.{◌≡◌, ℕ, ◌+◌, ◌*◌, ◌<◌, ◌≤◌, List, length, map, Result, IfOk, slice_index_or, slice_range}
use Rattle.std.specs.List.{flat_map}
use Rattle.std.specs.Fork.{slice_chunk}
use Rattle.redodb_model.specs.Names.{Text}
use Rattle.redodb_model.specs.History as histories
use Rattle.redodb_commands.specs.Meaning.{line_at}
use Rattle.redodb_commands.specs.declared.reply.Line.{Line}
use Rattle.redodb_history.specs.Histories.{ended, answer_text_of, line_text_of}
use Rattle.redodb_run.specs.declared.lines.Span.{Span}
use Rattle.redodb_run.specs.declared.lines.Printed.{Printed}

-- the text has the line's command and reply at the span
pub record IsAnswerAt (text : Text) (line : histories.Line Text) (span : Span) : Type 0 where
  pub ordered : span.start ≤ span.end
  pub within : span.end ≤ length text
  pub shown : slice_range text span.start span.end ≡ ended (answer_text_of line)

-- the text has those of the lines from this one on at the spans
abbrev pub AreAnswersAt : List Text → Text → List Line → ℕ → List Span → Type 0
AreAnswersAt names text lines from spans =
    (n : ℕ) (line : Line) (span : Span) → n < length spans
    → line ≡ slice_index_or lines (from + n) line → span ≡ slice_index_or spans n span
    → IsAnswerAt text (line_at names line) span

-- the lines are printed
pub record AreShown (names : List Text) (lines : List Line) (printed : Printed) : Type 0 where
  pub text : printed.text.items ≡ flat_map line_text_of (map (line_at names) lines)
  pub count : length printed.spans.items ≡ length lines
  pub spans : AreAnswersAt names printed.text.items lines 0 printed.spans.items

-- the chunks of so many lines are printed, up to the end of the history
pub record AreChunksOf (names : List Text) (lines : List Line) (size : ℕ) {E : Type 0}
    (chunks : List (Result Printed E)) : Type 0 where
  pub all : length lines ≤ length chunks * size
  pub each : (n : ℕ) (chunk : Result Printed E) → n < length chunks
      → chunk ≡ slice_index_or chunks n chunk
      → IfOk chunk (AreShown names (slice_chunk lines size n))
