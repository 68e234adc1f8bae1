-- In a history of a plan a row is left for what a session does next, if that needs one.
use Rattle.std.proofs.Common.{◌≡◌, ℕ, ◌<◌, ◌≤◌, true, false, List, [], ◌∷◌, ◌++◌, length, map, Option, Some, None, refl, sym, ap, ◌∙◌, arith}
use Rattle.std.specs.List.{AllByRecursion}
use Rattle.std.proofs.lemmas.Bool.{false≢true}
use Rattle.std.proofs.lemmas.List.{get_or_past}
use mathlib.Core.Logic.{dite}
use native.Mathlib.Decide.{dec_lt}
use Rattle.redodb_model.specs.Names.{Naming}
use Rattle.redodb_model.specs.State.{State, empty}
use Rattle.redodb_model.specs.Command.{Command, Item, Lock, asked_lock}
use Rattle.redodb_model.specs.Reply.{Reply}
use Rattle.redodb_model.specs.Step.{Answers, after, lock_reply}
use Rattle.redodb_model.specs.History.{LegalFrom}
use Rattle.redodb_model.specs.Placed.{Place, Row, Fits, line_of, part_of, is_claim, is_row, rows_in, IsPlacedAfter}
use Rattle.redodb_model.specs.Journals.{Numbered, numbered, next_of, IsJournal}
use Rattle.redodb_history_laws.proofs.Closed.{all_tell}
use Rattle.redodb_history_laws.proofs.Own.{part_of-own, part_of-other}
use Rattle.redodb_journal.specs.Plans.{PlanOf, IsPlan, script_of}
use Rattle.redodb_board.specs.Core.{Line, row}
use Rattle.redodb_board.specs.Histories.{IsHistoryOf}
use Rattle.redodb_board.specs.Plays.{next, own, own_build, own_way}
use Rattle.redodb_board.specs.Rows.{naming_of, rows_of}
use Rattle.redodb_board.proofs.Bounds.{RowAsked}
use Rattle.redodb_board.proofs.Ended.{over_numbers}
use Rattle.redodb_board.proofs.Orders.{by_text_is_naming}
use Rattle.redodb_board.proofs.OwnLines.{IsOwn, own_of}
use Rattle.redodb_board.proofs.Told.{way-row}
use Rattle.redodb_board.proofs.Totals as totals

lock_claims : (holder : Option ℕ) (grants t : ℕ) (reply : Reply ℕ)
    → reply ≡ lock_reply holder grants
    → is_claim (Lock t) reply ≡ true
lock_claims None grants t reply e = ap (is_claim (Lock t)) e
lock_claims (Some h) grants t reply e = ap (is_claim (Lock t)) e

-- a lock's line is a claim
no_lock : (naming : Naming ℕ) (state : State ℕ) (s : ℕ) (command : Command ℕ) (reply : Reply ℕ)
    → Answers naming state s command reply → is_claim command reply ≡ false
    → asked_lock command ≡ None
no_lock naming state s (Lock t) reply answers fits =
    absurd
    (false≢true
    (sym fits ∙ lock_claims (state.locks.holder t) (state.locks.grants t) t reply answers))
no_lock naming state s x reply answers fits = refl

-- so none has a row
asked_at : (naming : Naming ℕ) (state : State ℕ) (s : ℕ) (place : Place ℕ) (command : Command ℕ)
    (reply : Reply ℕ) → Answers naming state s command reply → Fits place command reply
    → is_row place ≡ true → asked_lock command ≡ None
asked_at naming state s (Row r) command reply answers fits is =
    no_lock naming state s command reply answers fits
asked_at naming state s place command reply answers fits is = absurd (false≢true is)

module _ (p : PlanOf) (plan : IsPlan p) where
  all_asked : (state : State ℕ) (before lines : List Line)
      → LegalFrom (naming_of p) state (map line_of lines)
      → IsPlacedAfter (naming_of p) before lines
      → AllByRecursion (RowAsked p plan) lines
  all_asked state before [] legal placed = tt
  all_asked state before (line ∷ lines) legal placed = (
    asked_at (naming_of p) state line.session line.place line.command line.reply legal.0 placed.0,
    all_asked (after (naming_of p) state line.session line.command) (before ++ line ∷ []) lines
        legal.1 placed.2,
  )

-- a session without a script does nothing
no_journal : (naming : Naming ℕ) (s : ℕ) (script : List (Item ℕ)) (lines : List Line)
    → script ≡ [] → IsJournal naming s script lines → lines ≡ []
no_journal naming s script [] none is = refl
no_journal naming s script (line ∷ lines) none is =
    let nothing : Option (Numbered ℕ) = None in
    let wrong : nothing ≡ Some (numbered line) =
    sym (ap (λ items. next_of naming items []) none) ∙ is.1 in
    absurd (cc)

-- if no line is of a session past these, all lines are of these
sessions_below : (n : ℕ) (lines : List Line) → ((s : ℕ) → n ≤ s → part_of s lines ≡ [])
    → AllByRecursion (λ line. line.session < n) lines
sessions_below n [] none = tt
sessions_below n (line ∷ lines) none = dite (dec_lt line.session n)
    (λ less. (
      less,
      sessions_below n lines
          (λ s past. sym (part_of-other s line lines (λ e. absurd (omega arith))) ∙ none s past),
    ))
    (λ not.
    let wrong : line ∷ part_of line.session lines ≡ [] =
    sym (part_of-own line.session line lines refl) ∙ none line.session (omega arith) in
    absurd (cc))

module _ (p : PlanOf) (lines : List Line) (plan : IsPlan p) (history : IsHistoryOf p lines) where
  own_lines : (s : ℕ) → IsOwn p s (part_of s lines)
  own_lines =
      let known = over_numbers p lines plan history in
      own_of p plan lines history.of_plan
      (all_tell (by_text_is_naming p.names) (script_of p) [] lines tt known.legal known.placed
      known.of_plan.journals known.below)
      (all_asked p plan empty [] lines known.legal known.placed)

  sessions : AllByRecursion (λ line. line.session < length p.scripts) lines
  sessions =
      sessions_below (length p.scripts) lines
      (λ s past. no_journal (naming_of p) s (script_of p s) (part_of s lines)
      (get_or_past p.scripts s [] past) (history.of_plan.journals s))

  -- the rows that are filled are fewer than those of the board
  row_is_left : (s : ℕ) (n : Numbered ℕ) → s < length p.scripts
      → next p s (part_of s lines) ≡ Some n → own_way (part_of s lines) n.command ≡ row
      → rows_in lines < rows_of p
  row_is_left s n here next way =
      let j = part_of s lines in
      totals.row_left p lines own_lines sessions s n here next
      (way-row n.command (own j n.command) (own_build j n.command) way) way

-- the law's claim
pub row_left : (p : PlanOf) (lines : List Line) (s : ℕ) (n : Numbered ℕ) → IsPlan p
    → IsHistoryOf p lines → s < length p.scripts → next p s (part_of s lines) ≡ Some n
    → own_way (part_of s lines) n.command ≡ row → rows_in lines < rows_of p
row_left p lines s n plan history here next way =
    row_is_left p lines plan history s n here next way
