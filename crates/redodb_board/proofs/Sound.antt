-- The core's invariant after a legal history.
use Rattle.std.proofs.Common.{◌≡◌, ℕ, ◌+◌, ◌<◌, eqb, cond, List, [], ◌∷◌, ◌++◌, length, Option, Some, None, sym, subst, inl, inr, arith}
use Rattle.std.proofs.lemmas.Bool.{cases_Bool}
use mathlib.Core.Logic.{dite}
use native.Mathlib.Decide.{ℕ_discrete}
use Rattle.redodb_model.specs.State.{State, Locks}
use Rattle.redodb_model.specs.Command.{Command}
use Rattle.redodb_model.specs.Renaming.{IsBelow}
use Rattle.redodb_model.specs.Journals.{numbered}
use Rattle.redodb_model.specs.Step.{after, locks_after, locks_granted, locks_freed, verdict_of, unless_refused, holds_target}
use Rattle.redodb_model.proofs.Held.{BuildersHold, builders_hold_after, builders_hold_at_first}
use Rattle.redodb_journal.specs.Plans.{PlanOf, IsPlan}
use Rattle.redodb_board.specs.Rows.{naming_of}
use Rattle.redodb_board.specs.Core.{Core, start, Way, row, claim, free, way_at, done, Line, IsNext, IsLegal, after_all}
use Rattle.redodb_board.proofs.Below.{AskBelow, ask-push, next-below}
use Rattle.redodb_board.proofs.Orders.{by_text_is_naming}
use Rattle.redodb_board.proofs.Ways.{goes, Goes}
use Rattle.redodb_board.proofs.Words.{set-same, set-other}

-- a holder was granted the lock; a builder holds; each command is over the plan's names
pub record Sound (p : PlanOf) (c : Core) : Type 0 where
  pub granted : (t h : ℕ) → c.state.locks.holder t ≡ Some h → 0 < c.state.locks.grants t
  pub builders : BuildersHold c.state
  pub below : (s : ℕ) → AskBelow (length p.names) (c.own s)

pub start-sound : (p : PlanOf) → Sound p start
start-sound p = record {
  granted = λ t h e. absurd (cc);
  builders = builders_hold_at_first;
  below = λ s. tt;
}

module _ (p : PlanOf) (c : Core) (l : Line) (plan : IsPlan p) (is : IsNext p c l) (o : Sound p c)
  where
    abbrev s : ℕ
    s = l.session

    abbrev x : Command ℕ
    x = l.command

    abbrev state' : State ℕ
    state' = after (naming_of p) c.state s x

    abbrev order : ℕ → ℕ → Rattle.std.specs.declared.cmp.Ordering.Ordering
    order = (naming_of p).order

    pub command-below : IsBelow (length p.names) x
    command-below = next-below p s (c.own s) (numbered l) plan (o.below s) is.next

    below' : (t : ℕ) → AskBelow (length p.names) ((done p c l).own t)
    below' t = dite (ℕ_discrete t s)
        (λ e. subst (AskBelow (length p.names)) (sym (set-same c.own s (c.own s ++ l ∷ []) t e))
        (ask-push (length p.names) (c.own s) l (o.below s) command-below))
        (λ ne. subst (AskBelow (length p.names))
        (sym (set-other c.own s (c.own s ++ l ∷ []) t ne)) (o.below t))

    builders' : BuildersHold state'
    builders' = builders_hold_after (by_text_is_naming p.names) c.state s x o.builders

    -- a holder was granted the lock
    abbrev Fine : Locks ℕ → Type 0
    Fine l = (t k : ℕ) → l.holder t ≡ Some k → 0 < l.grants t

    granted-fine : (t : ℕ) (a : Option ℕ) → Fine (locks_granted (naming_of p) a c.state.locks s t)
    granted-fine t None u k f = elim (cases_Bool (eqb t u)) [
      | inl e
          ↦ subst (λ b. 0 < cond b (c.state.locks.grants t + 1) (c.state.locks.grants u)) (sym e)
          (omega arith)
      | inr e
          ↦ subst (λ b. 0 < cond b (c.state.locks.grants t + 1) (c.state.locks.grants u)) (sym e)
          (o.granted u k (subst (λ b. cond b (Some s) (c.state.locks.holder u) ≡ Some k) e f))
    ]
    granted-fine t (Some h) u k f = o.granted u k f

    freed-fine : (t : ℕ) → Fine (locks_freed (naming_of p) c.state.locks t)
    freed-fine t u k f = elim (cases_Bool (eqb t u)) [
      | inl e
          ↦ absurd
          (let g : None
          ≡ Some k = subst (λ b. cond b None (c.state.locks.holder u) ≡ Some k) e f in
          cc)
      | inr e ↦ o.granted u k (subst (λ b. cond b None (c.state.locks.holder u) ≡ Some k) e f)
    ]

    abbrev locks' : Command ℕ → Locks ℕ
    locks' y =
        locks_after (naming_of p) c.state.locks s
        (verdict_of (naming_of p) c.state.records s (holds_target c.state.locks s y) y) y

    fine : (y : Command ℕ) (w : Way) → Goes order c.state s y w → Fine (locks' y)
    fine y row g = subst Fine (sym g.1) o.granted
    fine y (claim t) g =
        subst (λ z. Fine (locks' z)) (sym g) (granted-fine t (c.state.locks.holder t))
    fine y (free t) g =
        subst (λ z. Fine (locks' z)) (sym g.0)
        (subst
        (λ v. Fine
        (unless_refused v c.state.locks (locks_freed (naming_of p) c.state.locks t)))
        (sym g.1) (freed-fine t))

    pub goes-now : Goes order c.state s x (way_at c s x)
    goes-now = goes order c.state s x o.builders

    pub done-sound : Sound p (done p c l)
    done-sound = record {
      granted = fine x (way_at c s x) goes-now;
      builders = builders';
      below = below';
    }

sound_from : (p : PlanOf) (c : Core) (ls : List Line) → IsPlan p → Sound p c → IsLegal p c ls
    → Sound p (after_all p c ls)
sound_from p c [] plan o h = o
sound_from p c (x ∷ ls) plan o h =
    sound_from p (done p c x) ls plan (done-sound p c x plan h.0 o) h.1

pub sound : (p : PlanOf) (ls : List Line) → IsPlan p → IsLegal p start ls
    → Sound p (after_all p start ls)
sound p ls plan h = sound_from p start ls plan (start-sound p) h
