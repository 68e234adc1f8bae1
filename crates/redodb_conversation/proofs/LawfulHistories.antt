-- The text of logged lines as a history.
use Rattle.std.proofs.Common.{◌≡◌, ◌<◌, List, [], ◌∷◌, ◌++◌, map, refl, ap, subst, append-nil}
use Rattle.std.specs.List.{AllByRecursion, flat_map}
use Rattle.redodb_model.specs.Names.{Text}
use Rattle.redodb_model.specs.Command.{names_in}
use Rattle.redodb_model.specs.History.{Line}
use Rattle.redodb_text.specs.Grammar.{with_names}
use Rattle.redodb_history.specs.Histories.{history_text_of}
use Rattle.redodb_history.specs.HistoryTexts.{IsHistory}
use Rattle.redodb_history.specs.Support.HistoryTexts.{IsLineSaid}
use Rattle.redodb_history.proofs.HistoryReadsBack.{legal_history_reads_back}
use Rattle.redodb_live.specs.Lines.{names_after}
use Rattle.redodb_log.specs.Logs.{AreLogged}
use Rattle.redodb_conversation.specs.Support.Laws.{AreFew}
use Rattle.redodb_log.proofs.Grown.{own_names}

few_sessions : (lines : List (Line Text)) → AllByRecursion (λ line. line.session < 64) lines
    → AllByRecursion (IsLineSaid 65535) lines → AllByRecursion (IsLineSaid 64) lines
few_sessions [] few said = tt
few_sessions (line ∷ lines) few said =
    (record { session = few.0; said = said.0.said }, few_sessions lines few.1 said.1)

names_of_commands : (lines : List (Line Text))
    → flat_map own_names lines ≡ flat_map names_in (map (λ (line : Line Text). line.command) lines)
names_of_commands [] = refl
names_of_commands (line ∷ lines) = ap (λ ns. own_names line ++ ns) (names_of_commands lines)

pub history_text : (lines : List (Line Text)) → AreLogged lines → AreFew lines
    → IsHistory (history_text_of lines) (names_after lines) lines
history_text lines is few =
    subst (λ t. IsHistory t (names_after lines) lines) (append-nil (history_text_of lines))
    (legal_history_reads_back lines (names_after lines) [] is.legal
    (few_sessions lines few.sessions is.said) few.few
    (ap (with_names []) (names_of_commands lines), few.names))
