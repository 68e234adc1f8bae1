-- The locks after a command that is no lock.
use Rattle.std.proofs.Common.{◌≡◌, ◌==◌, ℕ, zero, suc, ◌+◌, Bool, true, false, cond, List, [], ◌∷◌, Option, Some, None, get_or, refl, sym, ap, ◌∙◌, subst, inl, inr}
use Rattle.std.specs.Prelude.{MatchOption}
use Rattle.std.proofs.Math.ListN.{set}
use Rattle.std.proofs.Math.Path.{fun_ext}
use Rattle.std.proofs.lemmas.Bool.{cases_eq, eq-eqb, ne_eqb}
use Rattle.std.proofs.lemmas.List.{get_or-set_other}
use Rattle.redodb_model.specs.Names.{Naming, by_number}
use Rattle.redodb_model.specs.State.{Locks, State}
use Rattle.redodb_model.specs.Command.{Command, Lock, Unlock, asked_lock}
use Rattle.redodb_model.specs.Reply.{Refusal, Reply, Okay, Refused, lets_through}
use Rattle.redodb_model.specs.Step.{Answers, Replies, records_after, after, verdict_of, holds_target, locks_after, locks_freed, unless_refused}
use Rattle.redodb_model.proofs.LetThrough.{accepted_through, stopped_same, told_without_lock}
use Rattle.redodb_database.specs.Support.Changes.{HasEffect}
use Rattle.redodb_database.specs.Tables.{Tables, tables_records, locks_of, state_of, calls_of, IsAsBefore}
use Rattle.redodb_database.specs.Support.Tables.{KeepsLocks, freed_by}
use Rattle.redodb_database.proofs.Rooms.{accepted_of_holder, changed_accepted}

-- the locks without that of the target, if there is one
abbrev pub freed : Naming ℕ → Locks ℕ → Option ℕ → Locks ℕ
freed naming locks None = locks
freed naming locks (Some t) = locks_freed naming locks t

-- an unlock frees its target if the reply is okay
unlocked : (naming : Naming ℕ) (locks : Locks ℕ) (t : ℕ) (reply : Reply ℕ)
    (verdict : Option (Refusal ℕ))
    → MatchOption verdict (reply ≡ Okay) (λ refusal. reply ≡ Refused refusal)
    → unless_refused verdict locks (locks_freed naming locks t)
    ≡ freed naming locks (freed_by (Unlock t) reply)
unlocked naming locks t reply None h =
    ap (λ (r : Reply ℕ). freed naming locks (freed_by (Unlock t) r)) (sym h)
unlocked naming locks t reply (Some refusal) h =
    ap (λ (r : Reply ℕ). freed naming locks (freed_by (Unlock t) r)) (sym h)

module _ (old : Tables) (s : ℕ) (holds : Bool) where
  -- the locks after a command, by its reply
  freed_after : (command : Command ℕ) (reply : Reply ℕ) → asked_lock command ≡ None
      → Replies by_number (tables_records old) s holds command reply
      → locks_after by_number (locks_of old) s
      (verdict_of by_number (tables_records old) s holds command) command
      ≡ freed by_number (locks_of old) (freed_by command reply)
  freed_after (Lock t) reply none h = cc
  freed_after (Unlock t) reply none h =
      unlocked by_number (locks_of old) t reply
      (verdict_of by_number (tables_records old) s holds (Unlock t)) h
  freed_after command reply none h = refl

  -- the state after it, if its target's lock is freed after its change
  pub obeyed : (new : Tables) (command : Command ℕ) (reply : Reply ℕ) → asked_lock command ≡ None
      → holds ≡ holds_target (locks_of old) s command
      → Replies by_number (tables_records old) s holds command reply
      → tables_records new ≡ records_after by_number (tables_records old) s holds command
      → locks_of new ≡ freed by_number (locks_of old) (freed_by command reply)
      → state_of new ≡ after by_number (state_of old) s command
  obeyed new command reply none held replies records locks =
      let whole : locks_of new ≡ locks_after by_number (locks_of old) s
      (verdict_of by_number (tables_records old) s holds command) command =
      locks ∙ sym (freed_after command reply none replies) in
      subst (λ (h : Bool). state_of new ≡ record {
        records = records_after by_number
            (tables_records old) s h command;
        locks = locks_after by_number (locks_of old) s
            (verdict_of by_number (tables_records old) s h command) command;
      }) held
      (λ i. record { records = records i; locks = whole i })

none_there : (xs : List (Option ℕ)) (i : ℕ) → get_or (set xs i None) i None ≡ None
none_there [] i = refl
none_there (x ∷ xs) zero = refl
none_there (x ∷ xs) (suc i) = none_there xs i

none_is_put : (xs : List (Option ℕ)) (i k : ℕ)
    → get_or (set xs i None) k None ≡ cond (i == k) None (get_or xs k None)
none_is_put xs i k = elim (cases_eq i k) [
  | inl e ↦ ap (λ (j : ℕ). get_or (set xs i None) j None) (sym e) ∙ none_there xs i
      ∙ ap (λ (b : Bool). cond b None (get_or xs k None)) (sym (eq-eqb i k e))
  | inr ne ↦ get_or-set_other xs i k None None (λ e. ne (sym e))
      ∙ ap (λ (b : Bool). cond b None (get_or xs k None)) (sym (ne_eqb i k ne))
]

-- the locks are the same if their lists are
same_locks : (old new : Tables) → KeepsLocks old new → locks_of new ≡ locks_of old
same_locks old new kept = λ i. record {
  holder = λ t. get_or (kept.holders i) t None;
  grants = λ t. get_or (kept.grants i) t 0;
}

-- a target without a holder is free
pub freed_at : (t : Tables) (n : ℕ) → locks_of (record t { holders = set t.holders n None })
    ≡ freed by_number (locks_of t) (Some n)
freed_at t n =
    let holders : (λ (k : ℕ). get_or (set t.holders n None) k None)
    ≡ (λ k. cond (n == k) None (get_or t.holders k None)) =
    fun_ext (none_is_put t.holders n) in
    λ i. record { holder = holders i; grants = (locks_of t).grants }

-- a command that is no lock is accepted if it isn't refused
pub accepted_told : (t : Tables) (s : ℕ) (command : Command ℕ) (reply : Reply ℕ)
    → asked_lock command ≡ None → Answers by_number (state_of t) s command reply
    → lets_through reply ≡ true
    → verdict_of by_number (tables_records t) s true command ≡ None
accepted_told t s command reply none told through =
    let holds : Bool = holds_target (locks_of t) s command in
    accepted_of_holder by_number (tables_records t) s holds command
    (accepted_through by_number (tables_records t) s holds command reply
    (told_without_lock by_number (state_of t) s command reply none told) through)

-- a command that is no lock, and isn't refused, was applied, and its target's lock freed
pub obeyed_accepted : (old mid new : Tables) (s : ℕ) (command : Command ℕ) (reply : Reply ℕ)
    → asked_lock command ≡ None → Answers by_number (state_of old) s command reply
    → lets_through reply ≡ true → HasEffect old mid s command → KeepsLocks old mid
    → tables_records new ≡ tables_records mid
    → locks_of new ≡ freed by_number (locks_of mid) (freed_by command reply)
    → state_of new ≡ after by_number (state_of old) s command
obeyed_accepted old mid new s command reply none told through changed kept records locks =
    let holds : Bool = holds_target (locks_of old) s command in
    let replies : Replies by_number (tables_records old) s holds command reply =
    told_without_lock by_number (state_of old) s command reply none told in
    let accepted : verdict_of by_number (tables_records old) s holds command ≡ None =
    accepted_through by_number (tables_records old) s holds command reply replies through in
    obeyed old s holds new command reply none refl replies
    (records ∙ changed_accepted old mid s holds command accepted changed)
    (locks
    ∙ ap (λ (l : Locks ℕ). freed by_number l (freed_by command reply)) (same_locks old mid kept))

-- a command whose reply lets nothing through leaves the state
pub stopped_call : (old counted : Tables) (s : ℕ) (command : Command ℕ) (reply : Reply ℕ)
    → Answers by_number (state_of old) s command reply → lets_through reply ≡ false
    → counted ≡ record old { calls = calls_of old + 1 }
    → state_of counted ≡ after by_number (state_of old) s command
stopped_call old counted s command reply told stopped is =
    ap state_of is
    ∙ sym (stopped_same by_number (state_of old) s command reply told stopped)

-- a call after memory was reserved
pub called_in : (old made new : Tables) (s : ℕ) (command : Command ℕ) → IsAsBefore old made
    → state_of new ≡ after by_number (state_of made) s command
    → state_of new ≡ after by_number (state_of old) s command
called_in old made new s command same called =
    called
    ∙ ap (λ (st : State ℕ). after by_number st s command) same.state
