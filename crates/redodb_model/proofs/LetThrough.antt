-- A command is accepted if its reply lets a guarded line through, and else changes nothing.
use Rattle.std.proofs.Common.{◌≡◌, ℕ, Bool, true, false, Option, Some, None, refl, sym, ap, ◌∙◌, subst, arith}
use Rattle.std.specs.Prelude.{MatchOption}
use Rattle.std.proofs.lemmas.Bool.{false≢true}
use Rattle.redodb_model.specs.Names.{Naming}
use Rattle.redodb_model.specs.State.{State, Records}
use Rattle.redodb_model.specs.Command.{Command, Lock, asked_lock}
use Rattle.redodb_model.specs.Reply.{Refusal, Reply, Refused, lets_through}
use Rattle.redodb_model.specs.Step.{Tells, Replies, Answers, after, verdict_of, holds_target, lock_reply, locks_granted}
use Rattle.redodb_model.proofs.Refused.{tells_through, refused_same}

-- only a `lock` locks
pub lock_asked : {N : Type 0} (command : Command N) (t : N) → asked_lock command ≡ Some t
    → command ≡ Lock t
lock_asked command t h = grind arith

module _ {N : Type 0} (naming : Naming N) where
  accepted_by : (v : Option (Refusal N)) (r : Records N) (command : Command N) (reply : Reply N)
      → MatchOption v (Tells naming r command reply) (λ refusal. reply ≡ Refused refusal)
      → lets_through reply ≡ true → v ≡ None
  accepted_by None r command reply told e = refl
  accepted_by (Some refusal) r command reply told e =
      absurd (false≢true (sym (ap lets_through told) ∙ e))

  -- a reply that lets a guarded line through belongs to an accepted command
  pub accepted_through : (r : Records N) (s : ℕ) (holds : Bool) (command : Command N)
      (reply : Reply N) → Replies naming r s holds command reply → lets_through reply ≡ true
      → verdict_of naming r s holds command ≡ None
  accepted_through r s holds command reply told e =
      accepted_by (verdict_of naming r s holds command) r command reply told e

  -- a command that is no lock has the reply of its verdict
  pub told_without_lock : (st : State N) (s : ℕ) (command : Command N) (reply : Reply N)
      → asked_lock command ≡ None → Answers naming st s command reply
      → Replies naming st.records s (holds_target st.locks s command) command reply
  told_without_lock st s command reply none told =
      subst
      (λ o. MatchOption o
      (Replies naming st.records s (holds_target st.locks s command) command reply)
      (λ t. reply ≡ lock_reply (st.locks.holder t) (st.locks.grants t))) none told

  free_by : (o : Option ℕ) (grants : ℕ) (reply : Reply N) → reply ≡ lock_reply o grants
      → lets_through reply ≡ true → o ≡ None
  free_by None grants reply is e = refl
  free_by (Some holder) grants reply is e =
      absurd (false≢true (sym (ap lets_through is) ∙ e))

  -- a lock that is granted was free
  pub free_through : (st : State N) (s : ℕ) (command : Command N) (reply : Reply N) (t : N)
      → asked_lock command ≡ Some t → Answers naming st s command reply
      → lets_through reply ≡ true → st.locks.holder t ≡ None
  free_through st s command reply t asked told e =
      free_by (st.locks.holder t) (st.locks.grants t) reply
      (subst (λ (c : Command N). Answers naming st s c reply) (lock_asked command t asked) told) e

  refused_by : (v : Option (Refusal N)) (r : Records N) (command : Command N) (reply : Reply N)
      → MatchOption v (Tells naming r command reply) (λ refusal. reply ≡ Refused refusal)
      → lets_through reply ≡ false → (refusal : Refusal N) × (reply ≡ Refused refusal)
  refused_by None r command reply told e =
      absurd (false≢true (sym e ∙ tells_through naming r command reply told))
  refused_by (Some refusal) r command reply told e = (refusal, told)

  lock_stopped : (o : Option ℕ) (st : State N) (s : ℕ) (t : N) (reply : Reply N)
      → reply ≡ lock_reply o (st.locks.grants t) → lets_through reply ≡ false
      → locks_granted naming o st.locks s t ≡ st.locks
  lock_stopped None st s t reply is e = absurd (false≢true (sym e ∙ ap lets_through is))
  lock_stopped (Some holder) st s t reply is e = refl

  stopped_by : (o : Option N) (st : State N) (s : ℕ) (command : Command N) (reply : Reply N)
      → asked_lock command ≡ o
      → MatchOption o (Replies naming st.records s (holds_target st.locks s command) command reply)
      (λ t. reply ≡ lock_reply (st.locks.holder t) (st.locks.grants t))
      → Answers naming st s command reply → lets_through reply ≡ false
      → after naming st s command ≡ st
  stopped_by None st s command reply asked replies told e =
      let (refusal, is) =
      refused_by (verdict_of naming st.records s (holds_target st.locks s command) command)
      st.records command reply replies e in
      refused_same naming st s command refusal (subst (Answers naming st s command) is told)
  stopped_by (Some t) st s command reply asked replies told e =
      let locks = lock_stopped (st.locks.holder t) st s t reply replies e in
      subst (λ (c : Command N). after naming st s c ≡ st) (sym (lock_asked command t asked))
      (λ i. record { records = st.records; locks = locks i })

  -- a reply that lets no guarded line through belongs to a command that changes nothing
  pub stopped_same : (st : State N) (s : ℕ) (command : Command N) (reply : Reply N)
      → Answers naming st s command reply → lets_through reply ≡ false
      → after naming st s command ≡ st
  stopped_same st s command reply told e =
      stopped_by (asked_lock command) st s command reply refl told told e
