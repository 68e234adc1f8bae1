-- How often locks were granted: at most once a command, and what is held at least once.
use Rattle.std.proofs.Common.{ℕ, ◌+◌, ◌≤◌, Bool, true, false, cond, Option, Some, None, IsSome, arith}
use Rattle.redodb_model.specs.Names.{Naming}
use Rattle.redodb_model.specs.State.{Locks, empty}
use Rattle.redodb_model.specs.Command.{Command, Lock, Unlock}
use Rattle.redodb_model.specs.Reply.{Refusal}
use Rattle.redodb_model.specs.Step.{locks_granted, locks_freed, locks_after, unless_refused}

-- no lock was granted more often than this, and each that is held was granted
pub record AreFewGrants {N : Type 0} (count : ℕ) (locks : Locks N) : Type 0 where
  pub few : (t : N) → locks.grants t ≤ count
  pub held : (t : N) → IsSome (locks.holder t) → 1 ≤ locks.grants t

more_is_few : (b : Bool) (here old count : ℕ) → here ≤ count → old ≤ count
    → cond b (here + 1) old ≤ count + 1
more_is_few true here old count p q = omega arith
more_is_few false here old count p q = omega arith

granted_is_held : (b : Bool) (s : ℕ) (holder : Option ℕ) (here old : ℕ) → (IsSome holder → 1 ≤ old)
    → IsSome (cond b (Some s) holder) → 1 ≤ cond b (here + 1) old
granted_is_held true s holder here old held h = omega arith
granted_is_held false s holder here old held h = held h

freed_is_held : (b : Bool) (holder : Option ℕ) (P : Type 0) → (IsSome holder → P)
    → IsSome (cond b None holder) → P
freed_is_held true holder P held h = cc
freed_is_held false holder P held h = held h

module _ {N : Type 0} (naming : Naming N) (count : ℕ) (locks : Locks N)
    (fit : AreFewGrants count locks) where
  few_later : AreFewGrants (count + 1) locks
  few_later = record { few = λ t. let h = fit.few t in omega arith; held = fit.held }

  few_granted : (holder : Option ℕ) (s : ℕ) (t : N)
      → AreFewGrants (count + 1) (locks_granted naming holder locks s t)
  few_granted None s t = record {
    few = λ m. more_is_few (naming.same t m) (locks.grants t) (locks.grants m) count (fit.few t)
        (fit.few m);
    held = λ m. granted_is_held (naming.same t m) s (locks.holder m) (locks.grants t)
        (locks.grants m) (fit.held m);
  }
  few_granted (Some holder) s t = few_later

  few_freed : (verdict : Option (Refusal N)) (t : N)
      → AreFewGrants (count + 1) (unless_refused verdict locks (locks_freed naming locks t))
  few_freed None t = record {
    few = few_later.few;
    held = λ m. freed_is_held (naming.same t m) (locks.holder m) (1 ≤ locks.grants m) (fit.held m);
  }
  few_freed (Some refusal) t = few_later

  -- one command more
  pub few_after : (s : ℕ) (verdict : Option (Refusal N)) (command : Command N)
      → AreFewGrants (count + 1) (locks_after naming locks s verdict command)
  few_after s verdict (Lock t) = few_granted (locks.holder t) s t
  few_after s verdict (Unlock t) = few_freed verdict t
  few_after s verdict command = few_later

pub few_at_first : {N : Type 0} → AreFewGrants 0 (empty {N = N}).locks
few_at_first = record { few = λ t. omega arith; held = λ t h. cc }
