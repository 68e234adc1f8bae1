-- How many rows a legal history has, and how many grants.
use Rattle.std.proofs.Common.{◌≡◌, ℕ, ◌<◌, ◌≤◌, Bool, List, [], ◌∷◌, ◌++◌, length, Some, None, arith}
use Rattle.std.specs.List.{AllByRecursion, count_by}
use Rattle.std.proofs.lemmas.List.Sums.{count_by-le-length, sum_by-append, sum_by-cons}
use Rattle.redodb_model.specs.Command.{asked_lock}
use Rattle.redodb_model.specs.Reply.{Okay}
use Rattle.redodb_model.specs.Placed.{Row, part_of, is_row, is_grant, rows_in}
use Rattle.redodb_model.specs.Journals.{Numbered, next_of}
use Rattle.redodb_journal.specs.Plans.{PlanOf, IsPlan, script_of}
use Rattle.redodb_board.specs.Core.{Core, Line, start, done, IsLegal, after_all, row_words, row}
use Rattle.redodb_board.specs.Plays.{own_way}
use Rattle.redodb_board.specs.Support.Plays.{made}
use Rattle.redodb_board.specs.Rows as rows
use Rattle.redodb_board.specs.Rows.{naming_of, rows_of}
use Rattle.redodb_board.proofs.Bridge.{stood_told}
use Rattle.redodb_board.proofs.Counts.{total, total-few, total-le, total-lt, rows-total, rows-few, by-parts}
use Rattle.redodb_board.proofs.OwnLines.{IsOwn, own_told, own_rows, own_entries, own_next, room_small}

pub few_rows : (p : PlanOf) → IsPlan p → rows_of p ≤ 524288
few_rows p plan = let a = rows-few p.scripts plan.short in let b = plan.few in omega arith

of_sessions : (p : PlanOf) (c : Core) (log : List Line) → IsLegal p c log
    → AllByRecursion (λ line. line.session < length p.scripts) log
of_sessions p c [] legal = tt
of_sessions p c (line ∷ lines) legal =
    (legal.0.session, of_sessions p (done p c line) lines legal.1)

module _ (p : PlanOf) (log : List Line) (own : (s : ℕ) → IsOwn p s (part_of s log))
    (sessions : AllByRecursion (λ line. line.session < length p.scripts) log) where
  -- the rows of each session, and those that its script asks for
  abbrev rows_had : ℕ → ℕ
  rows_had s = rows_in (part_of s log)

  abbrev rows_asked : ℕ → ℕ
  rows_asked s = rows.rows_in (script_of p s)

  rows_within : (s : ℕ) → rows_had s ≤ rows_asked s
  rows_within s = own_rows p s (part_of s log) (own s)

  rows_total : rows_in log ≡ total rows_had p.scripts
  rows_total = by-parts (λ line. is_row line.place) log p.scripts sessions

  -- no more rows than the plan asks for
  pub rows_few : rows_in log ≤ rows_of p
  rows_few = let a = rows_total in
      let b = rows-total p.scripts in
      let c = total-le rows_had rows_asked p.scripts (λ s h. rows_within s) in
      omega arith

  -- and a row is left for a command that a session does next
  pub row_left : (t : ℕ) (n : Numbered ℕ) → t < length p.scripts
      → next_of (naming_of p) (script_of p t) (part_of t log) ≡ Some n
      → asked_lock n.command ≡ None → own_way (part_of t log) n.command ≡ row
      → rows_in log < rows_of p
  row_left t n here next asked way =
      let lines = part_of t log in
      let line = made t n Okay (Row 0) in
      let more = own_rows p t (lines ++ line ∷ [])
      (own_next p t lines n (Row 0) (own t) next (λ _. (asked, way))) in
      let sum =
      sum_by-append (λ (l : Line). Rattle.std.specs.Prelude.cond (is_row l.place) 1 0) lines
      (line ∷ []) in
      let one =
      sum_by-cons (λ (l : Line). Rattle.std.specs.Prelude.cond (is_row l.place) 1 0) line [] in
      let a = rows_total in
      let b = rows-total p.scripts in
      let c =
      total-lt rows_had rows_asked p.scripts t here (omega arith) (λ s h. rows_within s) in
      omega arith

module _ (p : PlanOf) (log : List Line) (plan : IsPlan p) (legal : IsLegal p start log) where
  -- a legal history has no more rows than the plan asks for
  pub few : length (row_words p log) ≤ rows_of p
  few = let a = (stood_told p log plan legal).rows in
      let b = rows_few p log (own_told p plan log legal) (of_sessions p start log legal) in
      omega arith

  -- and has a row left for a command that a session does next
  pub one_left : (t : ℕ) (n : Numbered ℕ) → t < length p.scripts
      → next_of (naming_of p) (script_of p t) (part_of t log) ≡ Some n
      → asked_lock n.command ≡ None → own_way (part_of t log) n.command ≡ row
      → length (row_words p log) < rows_of p
  one_left t n here next asked way =
      let a = (stood_told p log plan legal).rows in
      let b =
      row_left p log (own_told p plan log legal) (of_sessions p start log legal) t n here next
      asked way in
      omega arith

  -- a target is granted at most once by each line
  pub few_grants : (t : ℕ) → (after_all p start log).state.locks.grants t ≤ 786432
  few_grants t =
      let test : Line → Bool = λ line. is_grant (naming_of p) t line.place in
      let a = (stood_told p log plan legal).tied.grants t in
      let b = by-parts test log p.scripts (of_sessions p start log legal) in
      let c =
      total-few (λ s. count_by test (part_of s log)) p.scripts
      (λ s. let few = count_by-le-length test (part_of s log) in
      let fits = own_entries p s (part_of s log) (own_told p plan log legal s) in
      let room = room_small p s plan in
      omega arith) in
      let d = plan.few in
      omega arith
