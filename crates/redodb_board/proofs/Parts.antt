-- A history's end, and the lines of one session in it.
use Rattle.std.proofs.Common.{◌≡◌, ℕ, List, [], ◌∷◌, ◌++◌, Option, refl, sym, ap, ◌∙◌, append_assoc}
use Rattle.std.proofs.lemmas.List.{append-nil}
use mathlib.Core.Logic.{dite}
use native.Mathlib.Decide.{ℕ_discrete}
use Rattle.redodb_model.specs.State.{Locks}
use Rattle.redodb_model.specs.Command.{Command}
use Rattle.redodb_model.specs.Reply.{Reply}
use Rattle.redodb_model.specs.Placed.{part_of}
use Rattle.redodb_model.specs.Step.{locks_after, locks_granted, locks_freed, verdict_of, unless_refused, holds_target}
use Rattle.redodb_journal.specs.Plans.{PlanOf}
use Rattle.redodb_board.specs.Rows.{naming_of}
use Rattle.redodb_board.specs.Core.{Core, start, word, Way, row, claim, free, rows_then, holds_at, way_at, done, Line, IsNext, IsLegal, after_all, Begins}
use Rattle.redodb_history_laws.proofs.Own.{part_of-own, part_of-other}
use Rattle.redodb_board.proofs.Ways.{Goes}
use Rattle.redodb_board.proofs.Words.{set-same, set-other}

-- one line more
pub after-push : (p : PlanOf) (c : Core) (ls : List Line) (l : Line)
    → after_all p c (ls ++ l ∷ []) ≡ done p (after_all p c ls) l
after-push p c [] l = refl
after-push p c (x ∷ ls) l = after-push p (done p c x) ls l

pub legal-push : (p : PlanOf) (c : Core) (ls : List Line) (l : Line) → IsLegal p c ls
    → IsNext p (after_all p c ls) l → IsLegal p c (ls ++ l ∷ [])
legal-push p c [] l h n = (n, tt)
legal-push p c (x ∷ ls) l h n = (h.0, legal-push p (done p c x) ls l h.1 n)

-- the core has each session's part
own_from : (p : PlanOf) (c : Core) (ls : List Line) (s : ℕ)
    → (after_all p c ls).own s ≡ c.own s ++ part_of s ls
own_from p c [] s = sym (append-nil (c.own s))
own_from p c (x ∷ ls) s =
    own_from p (done p c x) ls s
    ∙ dite (ℕ_discrete s x.session)
    (λ e. ap (λ xs. xs ++ part_of s ls)
    (set-same c.own x.session (c.own x.session ++ x ∷ []) s e
    ∙ ap (λ u. c.own u ++ x ∷ []) (sym e))
    ∙ append_assoc (c.own s) (x ∷ []) (part_of s ls)
    ∙ ap (λ xs. c.own s ++ xs) (sym (part_of-own s x ls (sym e))))
    (λ ne. ap (λ xs. xs ++ part_of s ls)
    (set-other c.own x.session (c.own x.session ++ x ∷ []) s ne)
    ∙ ap (λ xs. c.own s ++ xs) (sym (part_of-other s x ls (λ q. ne (sym q)))))

pub own-part : (p : PlanOf) (ls : List Line) (s : ℕ)
    → (after_all p start ls).own s ≡ part_of s ls
own-part p ls s = own_from p start ls s

-- the words of a history begin with those of its beginning
grows_way : (rows : List ℕ) (n : ℕ) (w : Way) → Begins (rows_then w rows n) rows
grows_way rows n row = (n ∷ [], refl)
grows_way rows n (claim t) = ([], sym (append-nil rows))
grows_way rows n (free t) = ([], sym (append-nil rows))

pub grows : (p : PlanOf) (c : Core) (l : Line) → Begins (done p c l).rows c.rows
grows p c l =
    grows_way c.rows (word p l.session l.number l.command (holds_at c l.session l.command))
    (way_at c l.session l.command)

-- the locks after a step
module _ (p : PlanOf) (c : Core) (s : ℕ) where
  abbrev verdict : Command ℕ → Option (Rattle.redodb_model.specs.Reply.Refusal ℕ)
  verdict y = verdict_of (naming_of p) c.state.records s (holds_target c.state.locks s y) y

  abbrev locks' : Command ℕ → Locks ℕ
  locks' y = locks_after (naming_of p) c.state.locks s (verdict y) y

  abbrev order : ℕ → ℕ → Rattle.std.specs.declared.cmp.Ordering.Ordering
  order = (naming_of p).order

  pub row-locks : (y : Command ℕ) → Goes order c.state s y row → locks' y ≡ c.state.locks
  row-locks y g = g.1

  pub claim-locks : (y : Command ℕ) (t : ℕ) → Goes order c.state s y (claim t)
      → locks' y ≡ locks_granted (naming_of p) (c.state.locks.holder t) c.state.locks s t
  claim-locks y t g = ap locks' g

  pub free-locks : (y : Command ℕ) (t : ℕ) → Goes order c.state s y (free t)
      → locks' y ≡ locks_freed (naming_of p) c.state.locks t
  free-locks y t g =
      ap locks' g.0
      ∙ ap (λ v. unless_refused v c.state.locks (locks_freed (naming_of p) c.state.locks t)) g.1
