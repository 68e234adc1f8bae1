-- The run text of files is a history, and its lines are legal.
use Rattle.std.proofs.Common.{◌<◌, ◌≤◌, get_or, List, [], ◌∷◌, ◌++◌, Some, length, map, refl, sym, subst, arith}
use Rattle.std.specs.List.{AllByRecursion, flat_map}
use Rattle.redodb_model.specs.Names.{Text, texts}
use Rattle.redodb_model.specs.Command.{Item, names_in}
use Rattle.redodb_model.specs.History.{Line, part_of, Legal}
use Rattle.redodb_text.specs.Grammar.{with_names, AddsNames}
use Rattle.redodb_history.specs.Histories.{history_text_of}
use Rattle.redodb_run.specs.RunTexts.{session_text_of, sessions_below}
use Rattle.redodb_history.proofs.HistoryReadsBack.{legal_history_reads_back}
use Rattle.redodb_history.proofs.RecordedLines.{all_map}
use Rattle.redodb_history.specs.HistoryTexts.{IsHistory}
use Rattle.redodb_history.specs.Support.HistoryTexts.{IsLineSaid}
use Rattle.redodb_run.specs.Runs.{IsRun, RunsAs}
use Rattle.redodb_run.proofs.Accepted.{AreAccepted-length}
use Rattle.redodb_run.proofs.Asked.{IsAsked, AreAsked, all_asked, few_names, all_names_known}
use Rattle.redodb_history.proofs.DistinctNames.{few_known}
use Rattle.redodb_run.proofs.RunLines.{lines_asked, few_lines}

-- the text is a history of legal lines
abbrev pub Replays : Text → Type 0
Replays text =
    (names : List Text) × (lines : List (Line Text)) × IsHistory text names lines
    × Legal texts lines

module _ (names : List Text) (scripts : List (List (Item Text))) (few : length scripts ≤ 64)
    (room : length names ≤ 65536) (asked : AllByRecursion (AreAsked names) scripts)
    (lines : List (Line Text)) (run : IsRun scripts lines) where
  lines_said : (ls : List (Line Text)) → AllByRecursion (λ line. line.session < length scripts) ls
      → AllByRecursion (λ line. IsAsked names line.command) ls → AllByRecursion (IsLineSaid 64) ls
  lines_said [] below all = tt
  lines_said (line ∷ ls) below all = (
    record { session = let less = below.0 in omega arith; said = all.0.said },
    lines_said ls below.1 all.1,
  )

  run_is_history : (rest : Text) → Replays (history_text_of lines ++ rest)
  run_is_history rest =
      let each = lines_asked names scripts asked lines run in
      let many = few_lines names scripts asked lines run in
      let said = lines_said lines run.sessions each in
      let commands = map (λ (line : Line Text). line.command) lines in
      let known =
      all_names_known names commands
      (all_map (λ (line : Line Text). line.command) (IsAsked names) lines each) in
      let less = few_known names (flat_map names_in commands) known in
      let met = with_names [] (flat_map names_in commands) in
      let named : AddsNames 65536 [] commands met = (refl, omega arith) in
      let is = legal_history_reads_back lines met rest run.legal said (omega arith) named in
      (met, lines, is, run.legal)

pub run_replays : (files : List Text) (text : Text) → RunsAs (map Some files) text → Replays text
run_replays files text (scripts, (some, few, (names, are)), (lines, run, is)) =
    let same = AreAccepted-length [] (map Some files) scripts names are in
    subst Replays (sym is)
    (run_is_history names scripts (omega arith)
    (few_names [] files scripts names are (omega arith)) (all_asked [] files scripts names are)
    lines run
    (flat_map (λ s. session_text_of s (get_or scripts s []) (part_of s lines))
    (sessions_below (length scripts))))
