-- The entry that a step lends.
use Rattle.std.proofs.Common.{◌≡◌, [], length, MatchOption, Option, Some, None, Result, Ok, IfOk, ap, ◌∙◌, subst, arith}
use Rattle.std.specs.Borrow.{Bor}
use Rattle.std.proofs.lemmas.List.{length_push}
use Rattle.redodb_journal.specs.Plans.{PlanOf, script_of}
use Rattle.redodb_journal.specs.declared.entry.Entry.{Entry}
use Rattle.redodb_board.specs.Shown.{journal_of, entries_of, told, IsAtEnd, IsLast}
use Rattle.redodb_board.specs.Outcomes.{Made, Stepped}
use Rattle.redodb_board.specs.declared.board.Board.{Board}
use Rattle.redodb_board.specs.declared.worker.Worker.{Worker}

-- what is lent, by whether a command was done
abbrev pub IsLent : PlanOf → Worker → Worker → Option (Bor Entry) → Type 0
IsLent p old new lent = MatchOption lent (IsAtEnd p old × (new ≡ old))
    (λ entry. Made p old new × IsLast (entries_of new) (Some entry))

-- after a command was done the journal has a last entry
pub lent : (p : PlanOf) (old new : Worker) (last : Option (Bor Entry)) → Made p old new
    → IsLast (entries_of new) last → IsLent p old new last
lent p old new None made empty =
    let none : journal_of p new ≡ [] = ap (told new.session (script_of p new.session)) empty in
    let grown = ap length made.grown ∙ length_push (journal_of p old) made.line in
    let length_none = ap length none in
    let no : ⊥ = omega arith in
    absurd no
lent p old new (Some entry) made last = (made, last)

module _ (p : PlanOf) (b : Board) (old new : Worker) {E : Type 0}
    (result : Result (Option (Bor Entry)) E) (lent : Option (Bor Entry))
    (is : result ≡ Ok lent) (stepped : Stepped p b old result new) where
  -- an entry is lent if a command was done
  pub made_of : (entry : Bor Entry) → lent ≡ Some entry → Made p old new
  made_of entry some =
      let done = subst (λ r. IfOk r (IsLent p old new)) (is ∙ ap Ok some) stepped.ok in
      done.0

  -- none is lent at the end
  pub end_of : lent ≡ None → IsAtEnd p old × (new ≡ old)
  end_of none = subst (λ r. IfOk r (IsLent p old new)) (is ∙ ap Ok none) stepped.ok
