-- The text of lines is a history of them.
use Rattle.std.proofs.Common.{◌≡◌, ℕ, ◌+◌, ◌≤◌, arith, List, [], ◌∷◌, ◌++◌, length, map, refl, sym, ap, ◌∙◌, append_assoc}
use Rattle.std.specs.Prelude.{codes, decimal}
use Rattle.std.specs.List.{AllByRecursion, flat_map}
use Rattle.redodb_model.specs.Names.{Text, texts}
use Rattle.redodb_model.specs.History.{Line, Legal}
use Rattle.redodb_text.specs.Grammar.{AddsNames}
use Rattle.redodb_text.specs.Texts.{command_text_of, reply_text_of}
use Rattle.redodb_history.specs.Histories.{ended, answer_text_of, line_text_of, header_of, history_text_of}
use Rattle.redodb_text.proofs.LineLaws.{text_is_spelled}
use Rattle.redodb_history.specs.HistoryTexts.{IsHistoryLine, AreHistoryLines, AreNamesOf, IsHistory}
use Rattle.redodb_history.specs.Support.HistoryTexts.{HasLineForm, IsLineSaid}
use Rattle.redodb_history.proofs.HistoryLines.{IsLineText}
use Rattle.redodb_history.proofs.LinesFit.{legal_lines_fit}

-- without its LF
abbrev pub own_text_of : Line Text → Text
own_text_of line = decimal (line.session + 1) ++ codes " " ++ answer_text_of line

regroup : (s c a r : Text) → s ++ (c ++ a ++ r) ≡ s ++ c ++ a ++ r
regroup s c a r = sym (append_assoc s (c ++ a) r)
    ∙ ap (λ (t : Text). t ++ r) (sym (append_assoc s c a))

pub own_text_is : (most : ℕ) (line : Line Text) → most ≤ 65535 → HasLineForm most line
    → IsLineText (own_text_of line) line
own_text_is most line small form = record {
  session = let few = form.session in omega arith;
  command = command_text_of line.command;
  reply = reply_text_of line.reply;
  parts = regroup (decimal (line.session + 1) ++ codes " ") (command_text_of line.command)
      (codes " => ") (reply_text_of line.reply);
  said = (form.command, form.short, text_is_spelled line.command form.command);
  answered = (form.reply, refl);
}

line_reads_back : (line : Line Text) → HasLineForm 64 line
    → IsHistoryLine (own_text_of line) line
line_reads_back line form =
    let is = own_text_is 64 line (omega arith) form in
    record {
      session = form.session;
      command = is.command;
      reply = is.reply;
      parts = is.parts;
      said = is.said;
      answered = is.answered;
    }

lines_read_back : (lines : List (Line Text)) → AllByRecursion (HasLineForm 64) lines
    → AreHistoryLines (map own_text_of lines) lines
lines_read_back [] forms = tt
lines_read_back (line ∷ lines) forms = (line_reads_back line forms.0, lines_read_back lines forms.1)

all_ended : (lines : List (Line Text))
    → flat_map line_text_of lines ≡ flat_map ended (map own_text_of lines)
all_ended [] = refl
all_ended (line ∷ lines) = ap (λ (t : Text). line_text_of line ++ t) (all_ended lines)

pub history_reads_back : (lines : List (Line Text)) (names : List Text) (rest : Text)
    → AllByRecursion (HasLineForm 64) lines → length lines ≤ 1048576 → AreNamesOf lines names
    → IsHistory (history_text_of lines ++ rest) names lines
history_reads_back lines names rest forms few named = record {
  few = few;
  texts = map own_text_of lines;
  rest = rest;
  parts = ap (λ (t : Text). header_of (length lines) ++ t ++ rest) (all_ended lines);
  read = record { each = lines_read_back lines forms; named = named };
}

pub legal_history_reads_back : (lines : List (Line Text)) (names : List Text) (rest : Text)
    → Legal texts lines → AllByRecursion (IsLineSaid 64) lines → length lines ≤ 1048576
    → AddsNames 65536 [] (map (λ line. line.command) lines) names
    → IsHistory (history_text_of lines ++ rest) names lines
legal_history_reads_back lines names rest legal said few adds =
    let fit = legal_lines_fit 64 lines legal said (omega arith) in
    history_reads_back lines names rest fit.forms few (adds.0 ∙ sym fit.same_names, adds.1)
