-- The lines of a session in a legal history: how many rows, entries and grants they have.
use Rattle.std.proofs.Common.{◌≡◌, ℕ, ◌<◌, ◌≤◌, Bool, true, false, cond, not, ◌&&◌, List, [], ◌∷◌, ◌++◌, length, map, Some, None, refl, sym, ap, ◌∙◌, subst, inl, inr, arith, append_assoc, append-nil}
use Rattle.std.specs.List.{AllByRecursion}
use Rattle.std.proofs.lemmas.List.Sums.{count_by-le-length}
use mathlib.Core.Logic.{dite}
use native.Mathlib.Decide.{ℕ_discrete}
use Rattle.redodb_model.specs.Command.{Command, Failed, Unlock, asked_lock}
use Rattle.redodb_model.specs.Reply.{Okay}
use Rattle.redodb_model.specs.Placed.{Place, line_of, part_of, is_row, rows_in}
use Rattle.redodb_model.specs.Closing as closing
use Rattle.redodb_model.specs.Closing.{closing_of}
use Rattle.redodb_model.specs.Support.Room.{is_lock, is_failed, locks_in, starts_in, room_of}
use Rattle.redodb_model.specs.Journals.{Numbered, numbered, next_of, IsJournal, IsJournalAfter}
use Rattle.redodb_model.specs.Support.Journals.{IsOfPlan}
use Rattle.redodb_model.proofs.JournalRoom.{ClosingsOkay, journal_room, numbers_fit}
use Rattle.redodb_model.proofs.Letting.{closing_held}
use Rattle.redodb_model.proofs.Nexts.{next_past_script}
use Rattle.redodb_history_laws.proofs.Closed.{LineTells, AllTell}
use Rattle.redodb_history_laws.proofs.Own.{part_of-own, part_of-other}
use Rattle.redodb_journal.specs.Plans.{PlanOf, IsPlan, script_of}
use Rattle.redodb_board.specs.Core.{Line, start, IsLegal, row, free}
use Rattle.redodb_board.specs.Plays.{own_way}
use Rattle.redodb_board.specs.Support.Plays.{made}
use Rattle.redodb_board.specs.Rows as rows
use Rattle.redodb_board.specs.Rows.{naming_of}
use Rattle.redodb_board.proofs.Bounds.{lock_asked, RowAsked, rows_asked, all_told}
use Rattle.redodb_board.proofs.Bridge.{of_plan_told}
use Rattle.redodb_board.proofs.Held.{holds_alike, builds_alike}
use Rattle.redodb_board.proofs.Orders.{by_text_is_naming}
use Rattle.redodb_board.proofs.SessionRows.{RowIs, RowsAre, session_rows}
use Rattle.redodb_board.proofs.Sound.{start-sound}

-- the journal of a session, whose closing lines are answered `ok`, and whose rows are those that
-- its script asks for
pub record IsOwn (p : PlanOf) (s : ℕ) (lines : List Line) : Type 0 where
  pub journal : IsJournal (naming_of p) s (script_of p s) lines
  pub okay : ClosingsOkay (script_of p s) lines
  pub rows : RowsAre (script_of p s) lines

-- what is true of all lines is true of those of a session
parts_all : (P : ℕ → Line → Type 0) (lines : List Line)
    → AllByRecursion (λ line. P line.session line) lines → (s : ℕ)
    → AllByRecursion (P s) (part_of s lines)
parts_all P [] all s = tt
parts_all P (line ∷ lines) all s = dite (ℕ_discrete line.session s)
    (λ e. subst (AllByRecursion (P s)) (sym (part_of-own s line lines e))
    (subst (λ u. P u line) e all.0, parts_all P lines all.1 s))
    (λ ne. subst (AllByRecursion (P s)) (sym (part_of-other s line lines ne))
    (parts_all P lines all.1 s))

module _ (p : PlanOf) (plan : IsPlan p) where
  row_is : (line : Line) → LineTells (by_text_is_naming p.names) (script_of p) line
      → RowAsked p plan line → RowIs (script_of p line.session) line
  row_is line tells asked = record {
    no_lock = λ r. lock_asked line.command (asked r);
    failed = λ r past. elim (tells.row r) [
      | inl scripted ↦ let within = scripted.within in absurd (omega arith)
      | inr failing ↦ ap is_failed failing.command
    ];
  }

  rows_are : (lines : List Line) → AllTell (by_text_is_naming p.names) (script_of p) lines
      → AllByRecursion (RowAsked p plan) lines
      → AllByRecursion (λ line. RowIs (script_of p line.session) line) lines
  rows_are [] tell asked = tt
  rows_are (line ∷ lines) tell asked =
      (row_is line tell.0 asked.0, rows_are lines tell.1 asked.1)

  all_okay : (lines : List Line) → AllTell (by_text_is_naming p.names) (script_of p) lines
      → AllByRecursion (λ line. length (script_of p line.session) ≤ line.number
      → line.reply ≡ Okay) lines
  all_okay [] tell = tt
  all_okay (line ∷ lines) tell = (tell.0.okay, all_okay lines tell.1)

  pub own_of : (log : List Line) → IsOfPlan (naming_of p) (script_of p) log
      → AllTell (by_text_is_naming p.names) (script_of p) log
      → AllByRecursion (RowAsked p plan) log → (s : ℕ) → IsOwn p s (part_of s log)
  own_of log of_plan tell asked s = record {
    journal = of_plan.journals s;
    okay = parts_all (λ u line. length (script_of p u) ≤ line.number → line.reply ≡ Okay) log
        (all_okay log tell) s;
    rows = parts_all (λ u line. RowIs (script_of p u) line) log (rows_are log tell asked) s;
  }

  pub own_told : (log : List Line) → IsLegal p start log → (s : ℕ) → IsOwn p s (part_of s log)
  own_told log legal =
      own_of log (of_plan_told p log plan legal) (all_told p log plan legal)
      (rows_asked p plan start log (start-sound p) legal)

module _ (p : PlanOf) (s : ℕ) where
  pub own_rows : (lines : List Line) → IsOwn p s lines
      → rows_in lines ≤ rows.rows_in (script_of p s)
  own_rows lines is =
      session_rows (by_text_is_naming p.names) s (script_of p s) lines is.journal is.okay is.rows

  pub own_entries : (lines : List Line) → IsOwn p s lines → length lines ≤ room_of (script_of p s)
  own_entries lines is =
      journal_room (by_text_is_naming p.names) s (script_of p s) lines is.journal is.okay

  pub own_numbers : (lines : List Line) → IsOwn p s lines
      → AllByRecursion (λ line. line.number < room_of (script_of p s)) lines
  own_numbers lines is =
      numbers_fit (by_text_is_naming p.names) s (script_of p s) lines is.journal is.okay

  all_push : (P : Line → Type 0) (lines : List Line) (line : Line) → AllByRecursion P lines
      → P line → AllByRecursion P (lines ++ line ∷ [])
  all_push P [] line all here = (here, tt)
  all_push P (first ∷ lines) line all here = (all.0, all_push P lines line all.1 here)

  journal_push : (before lines : List Line) (line : Line)
      → IsJournalAfter (naming_of p) s (script_of p s) before lines → line.session ≡ s
      → next_of (naming_of p) (script_of p s) (before ++ lines) ≡ Some (numbered line)
      → IsJournalAfter (naming_of p) s (script_of p s) before (lines ++ line ∷ [])
  journal_push before [] line is own next =
      (own, ap (next_of (naming_of p) (script_of p s)) (sym (append-nil before)) ∙ next, tt)
  journal_push before (first ∷ lines) line is own next = (
    is.0,
    is.1,
    journal_push (before ++ first ∷ []) lines line is.2 own
        (ap (next_of (naming_of p) (script_of p s)) (append_assoc before (first ∷ []) lines)
        ∙ next),
  )

  -- a closing command that is on a row fails a build
  lets_fail : (own : List Line) (x : Command ℕ) (t : ℕ) (b : Bool)
      → closing.builds (naming_of p) (map line_of own) t ≡ b
      → closing.holds (naming_of p) (map line_of own) t ≡ true
      → x ≡ cond b (Failed t) (Unlock t) → own_way own x ≡ row → x ≡ Failed t
  lets_fail own x t true builds held is way = is
  lets_fail own x t false builds held is way =
      let h = holds_alike (naming_of p).order own t ∙ held in
      let b = builds_alike (naming_of p).order own t ∙ builds in
      let frees : own_way own (Unlock t) ≡ free t =
      λ i. cond (h i && not (b i)) (free t) row in
      absurd (let e : free t ≡ row = sym frees ∙ ap (own_way own) (sym is) ∙ way in cc)

  pub closing_fails : (own : List Line) (x : Command ℕ)
      → closing_of (naming_of p) (map line_of own) ≡ Some x → own_way own x ≡ row
      → (t : ℕ) × (x ≡ Failed t)
  closing_fails own x closes way =
      let (t, held, is) = closing_held (naming_of p) (map line_of own) x closes in
      (t, lets_fail own x t (closing.builds (naming_of p) (map line_of own) t) refl held is way)

  -- with what the session does next, answered `ok`, they are one line more
  pub own_next : (lines : List Line) (n : Numbered ℕ) (place : Place ℕ) → IsOwn p s lines
      → next_of (naming_of p) (script_of p s) lines ≡ Some n
      → (is_row place ≡ true → asked_lock n.command ≡ None × (own_way lines n.command ≡ row))
      → IsOwn p s (lines ++ made s n Okay place ∷ [])
  own_next lines n place is next rows = record {
    journal = journal_push [] lines (made s n Okay place) is.journal refl next;
    okay = all_push (λ line. length (script_of p s) ≤ line.number → line.reply ≡ Okay) lines
        (made s n Okay place) is.okay (λ _. refl);
    rows = all_push (RowIs (script_of p s)) lines (made s n Okay place) is.rows (record {
      no_lock = λ r. lock_asked n.command (rows r).0;
      failed = λ r past.
          let closes = next_past_script (naming_of p) (script_of p s) lines n next past in
          let (t, fails) = closing_fails lines n.command closes.closes (rows r).1 in
          ap is_failed fails;
    });
  }

-- a session has few lines
pub room_small : (p : PlanOf) (s : ℕ) → IsPlan p → room_of (script_of p s) ≤ 12288
room_small p s plan =
    let short = plan.short s in
    let locks = count_by-le-length
    (λ (item : Rattle.redodb_model.specs.Command.Item ℕ). is_lock item.command) (script_of p s) in
    let starts = count_by-le-length
    (λ (item : Rattle.redodb_model.specs.Command.Item ℕ).
    Rattle.redodb_model.specs.Support.Room.is_start item.command) (script_of p s) in
    omega arith
