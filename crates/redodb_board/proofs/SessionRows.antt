-- How many rows and entries a session needs: as many as its script asks for.
use Rattle.std.proofs.Common.{◌≡◌, ℕ, ◌+◌, ◌≤◌, Bool, true, false, cond, List, [], ◌∷◌, ◌++◌, length, refl, ap, subst, arith}
use Rattle.std.specs.List.{AllByRecursion, count_by, sum_by}
use Rattle.std.proofs.lemmas.List.Sums.{sum_by-cons, sum_by-append}
use Rattle.redodb_model.specs.Names.{Naming}
use Rattle.redodb_model.specs.Support.Names.{IsNaming}
use Rattle.redodb_model.specs.Support.Room.{is_lock, is_start, is_failed, starts_in}
use Rattle.redodb_model.specs.Command.{Command, Item}
use Rattle.redodb_model.specs.Placed as placed
use Rattle.redodb_model.specs.Placed.{is_row}
use Rattle.redodb_model.specs.Journals.{IsJournal}
use Rattle.redodb_model.proofs.Parts.{Parts, parts_after, closed_past}
use Rattle.redodb_model.proofs.JournalRoom.{ClosingsOkay, asked_within, few_closing}
use Rattle.redodb_board.specs.Core.{Line}
use Rattle.redodb_board.specs.Rows.{rows_for, rows_in}

-- a line of a script that has a row is no lock, and a closing one fails a build
pub record RowIs (script : List (Item ℕ)) (line : Line) : Type 0 where
  pub no_lock : is_row line.place ≡ true → is_lock line.command ≡ false
  pub failed : is_row line.place ≡ true → length script ≤ line.number
      → is_failed line.command ≡ true

abbrev pub RowsAre : List (Item ℕ) → List Line → Type 0
RowsAre script lines = AllByRecursion (RowIs script) lines

-- one line of a script whose command is no lock
abbrev one_row : Command ℕ → ℕ
one_row command = cond (is_lock command) 0 1

row_no_lock : (row lock : Bool) → (row ≡ true → lock ≡ false) → cond row 1 0 ≤ cond lock 0 1
row_no_lock true lock is = let e = ap (λ (b : Bool). cond {A = ℕ} b 0 1) (is refl) in omega arith
row_no_lock false lock is = omega arith

row_failed : (row failed : Bool) → (row ≡ true → failed ≡ true) → cond row 1 0 ≤ cond failed 1 0
row_failed true failed is =
    let e = ap (λ (b : Bool). cond {A = ℕ} b 1 0) (is refl) in omega arith
row_failed false failed is = omega arith

-- a line of a script needs a row for itself, and one for a closing command
rows_both : (command : Command ℕ)
    → one_row command + cond (is_start command) 1 0 ≡ rows_for command
rows_both command = grind arith

rows_split : (script : List (Item ℕ))
    → sum_by (λ item. one_row item.command) script + starts_in script ≡ rows_in script
rows_split [] = refl
rows_split (item ∷ script) =
    let one = sum_by-cons (λ (x : Item ℕ). one_row x.command) item script in
    let start = sum_by-cons (λ (x : Item ℕ). cond (is_start x.command) 1 0) item script in
    omega (arith, rows_both item.command, rows_split script)

module _ (script : List (Item ℕ)) where
  own_rows : (lines : List Line) → RowsAre script lines
      → placed.rows_in lines ≤ sum_by (λ line. one_row line.command) lines
  own_rows [] are = omega arith
  own_rows (line ∷ lines) are =
      let row = sum_by-cons (λ (l : Line). cond (is_row l.place) 1 0) line lines in
      let one = sum_by-cons (λ (l : Line). one_row l.command) line lines in
      let here = row_no_lock (is_row line.place) (is_lock line.command) are.0.no_lock in
      let rest = own_rows lines are.1 in
      omega arith

  closing_rows : (lines : List Line) → RowsAre script lines
      → AllByRecursion (λ line. length script ≤ line.number) lines
      → placed.rows_in lines ≤ count_by (λ line. is_failed line.command) lines
  closing_rows [] are past = omega arith
  closing_rows (line ∷ lines) are past =
      let row = sum_by-cons (λ (l : Line). cond (is_row l.place) 1 0) line lines in
      let one = sum_by-cons (λ (l : Line). cond (is_failed l.command) 1 0) line lines in
      let here = row_failed (is_row line.place) (is_failed line.command)
      (λ r. are.0.failed r past.0) in
      let rest = closing_rows lines are.1 past.1 in
      omega arith

  rows_prefix : (own closing : List Line) → RowsAre script (own ++ closing)
      → RowsAre script own × RowsAre script closing
  rows_prefix [] closing are = (tt, are)
  rows_prefix (line ∷ own) closing are =
      let rest = rows_prefix own closing are.1 in ((are.0, rest.0), rest.1)

module _ {naming : Naming ℕ} (law : IsNaming naming) (s : ℕ) (script : List (Item ℕ)) where
  rows_by_parts : (lines : List Line) → Parts naming s script [] lines
      → ClosingsOkay script lines → RowsAre script lines → placed.rows_in lines ≤ rows_in script
  rows_by_parts lines parts okay are =
      let all = rows_prefix script parts.own parts.closing
      (subst (RowsAre script) parts.both are) in
      let own = own_rows script parts.own all.0 in
      let asked = asked_within s script one_row parts.own parts.lined in
      let closing = closing_rows script parts.closing all.1
      (closed_past naming s script parts.own parts.closing parts.closed) in
      let failed = (few_closing law s script lines parts okay).0 in
      let split = rows_split script in
      let both = ap placed.rows_in parts.both in
      let sum =
      sum_by-append (λ (l : Line). cond (is_row l.place) 1 0) parts.own parts.closing in
      omega arith

  -- a journal has no more rows than its script asks for
  pub session_rows : (lines : List Line) → IsJournal naming s script lines
      → ClosingsOkay script lines → RowsAre script lines → placed.rows_in lines ≤ rows_in script
  session_rows lines is okay are =
      rows_by_parts lines (parts_after naming s script [] lines is) okay are
