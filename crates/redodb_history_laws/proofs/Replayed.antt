-- The row words determine the records.
use Rattle.std.proofs.Common.{◌≡◌, ℕ, ◌<◌, ◌≤◌, true, List, [], ◌∷◌, ◌++◌, length, map, refl, sym, ap, ◌∙◌, subst, arith}
use Rattle.std.specs.List.{AllByRecursion}
use mathlib.Core.Logic.{dite}
use native.Mathlib.Decide.{ℕ_discrete, dec_lt}
use Rattle.redodb_model.specs.Names.{Naming}
use Rattle.redodb_model.specs.Support.Names.{IsNaming}
use Rattle.redodb_model.specs.State.{State, Records, empty}
use Rattle.redodb_model.specs.Command.{Item, target_of}
use Rattle.redodb_model.specs.Step.{after, records_after}
use Rattle.redodb_model.specs.History.{left_by, LegalFrom}
use Rattle.redodb_model.specs.Placed.{Place, Row, PlacedLine, line_of, part_of, is_row, IsPlacedAfter}
use Rattle.redodb_model.specs.Support.Placed.{holds_by}
use Rattle.redodb_history_laws.specs.Words.{word_before, row_word_of, row_words_after, row_words_of}
use Rattle.redodb_model.specs.Journals.{IsJournal}
use Rattle.redodb_history_laws.specs.ByRows.{records_by, records_left}
use Rattle.redodb_history_laws.specs.Replayed.{no_records, replayed, IsLegalOfPlan}
use Rattle.redodb_history_laws.proofs.Own.{part_of-own, part_of-other}
use Rattle.redodb_history_laws.proofs.Bridge.{tied_after}
use Rattle.redodb_history_laws.proofs.Answered.{from_answers}
use Rattle.redodb_history_laws.proofs.Closed.{RowTells, AllTell, all_tell}
use Rattle.redodb_history_laws.proofs.Decoding.{row_says}
use Rattle.redodb_history_laws.proofs.Tied.{Tied, tied_at_first}

-- the sessions of the lines are among those that have scripts
no_part : (naming : Naming ℕ) (s : ℕ) (script : List (Item ℕ)) (own : List (PlacedLine ℕ))
    → script ≡ [] → IsJournal naming s script own → own ≡ []
no_part naming s script [] e is = refl
no_part naming s script (line ∷ own) e is =
    let next = subst (λ items. IsJournal naming s items (line ∷ own)) e is in
    let none = next.1 in absurd (cc)

all_few : (lines : List (PlacedLine ℕ)) → ((s : ℕ) → 64 ≤ s → part_of s lines ≡ [])
    → AllByRecursion (λ line. line.session < 64) lines
all_few [] none = tt
all_few (line ∷ lines) none = (
  dite (dec_lt line.session 64) (λ less. less)
      (λ not. let own = part_of-own line.session line lines refl in
      let nothing = none line.session (omega arith) in absurd (cc)),
  all_few lines (λ s past. dite (ℕ_discrete line.session s)
      (λ e. let own = part_of-own s line lines e in
      let nothing = none s past in absurd (cc))
      (λ ne. sym (part_of-other s line lines ne) ∙ none s past)),
)

module _ {naming : Naming ℕ} (law : IsNaming naming) where
  abbrev pub rows_left : Records ℕ → List (PlacedLine ℕ) → List (PlacedLine ℕ) → Records ℕ
  rows_left r before [] = r
  rows_left r before (line ∷ lines) =
      rows_left
      (records_by naming line.place r (part_of line.session before) line.session line.command)
      (before ++ line ∷ []) lines

  -- the records that a legal history leaves are those that its rows leave
  pub left_is : (state : State ℕ) (before lines : List (PlacedLine ℕ)) → Tied naming state before
      → IsPlacedAfter naming before lines → LegalFrom naming state (map line_of lines)
      → (left_by naming state (map line_of lines)).records ≡ rows_left state.records before lines
  left_is state before [] tied placed legal = refl
  left_is state before (line ∷ lines) tied placed legal =
      let step =
      from_answers naming state before line.session line.command line.reply line.place tied placed.0
      legal.0 in
      let next = tied_after law state before line tied placed.1 step.0 step.1 in
      left_is (after naming state line.session line.command) (before ++ line ∷ []) lines next
      placed.2 legal.1
      ∙ ap (λ (d : State ℕ). rows_left d.records (before ++ line ∷ []) lines) step.1

  module _ (plan : ℕ → List (Item ℕ)) (short : (s : ℕ) → length (plan s) ≤ 4096) where
    at_place : (place : Place ℕ) (records : Records ℕ) (own : List (PlacedLine ℕ))
        (line : PlacedLine ℕ) (words : List ℕ) (rest : Records ℕ → Records ℕ)
        → line.session < 64 → (is_row place ≡ true → RowTells plan line)
        → ((d : Records ℕ) → replayed naming plan d words ≡ rest d)
        → replayed naming plan records
        (word_before place (row_word_of naming plan own line) words)
        ≡ rest (records_by naming place records own line.session line.command)
    at_place (Row n) records own line words rest few tells same =
        ap (λ (d : Records ℕ). replayed naming plan d words)
        (row_says plan line (holds_by naming own (target_of line.command)) naming records few
        (short line.session) (tells refl))
        ∙ same
        (records_after naming records line.session
        (holds_by naming own (target_of line.command))
        line.command)
    at_place place records own line words rest few tells same = same records

    replay_is : (records : Records ℕ) (before lines : List (PlacedLine ℕ))
        → AllTell law plan lines → AllByRecursion (λ line. line.session < 64) lines
        → replayed naming plan records (row_words_after naming plan before lines)
        ≡ rows_left records before lines
    replay_is records before [] tell few = refl
    replay_is records before (line ∷ lines) tell few =
        at_place line.place records (part_of line.session before) line
        (row_words_after naming plan (before ++ line ∷ []) lines)
        (λ d. rows_left d (before ++ line ∷ []) lines)
        few.0 tell.0.row
        (λ d. replay_is d (before ++ line ∷ []) lines tell.1 few.1)

  -- the records that a legal placed history leaves are the replay of its row words
  pub words_replayed : (plan : ℕ → List (Item ℕ)) (lines : List (PlacedLine ℕ))
      → IsLegalOfPlan naming plan lines
      → records_left naming lines
      ≡ replayed naming plan no_records (row_words_of naming plan lines)
  words_replayed plan lines known =
      left_is empty [] lines (tied_at_first naming) known.placed known.legal
      ∙ sym (replay_is plan known.of_plan.short no_records [] lines
      (all_tell law plan [] lines tt known.legal known.placed known.of_plan.journals known.below)
      (all_few lines (λ s past. no_part naming s (plan s) (part_of s lines) (known.few s past)
      (known.of_plan.journals s))))

  pub words_fix : (plan : ℕ → List (Item ℕ)) (one other : List (PlacedLine ℕ))
      → IsLegalOfPlan naming plan one → IsLegalOfPlan naming plan other
      → row_words_of naming plan one ≡ row_words_of naming plan other
      → records_left naming one ≡ records_left naming other
  words_fix plan one other a b same =
      words_replayed plan one a ∙ ap (replayed naming plan no_records) same
      ∙ sym (words_replayed plan other b)
