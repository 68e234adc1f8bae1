-- A refused command changes nothing.
use Rattle.std.proofs.Common.{◌≡◌, ℕ, true, List, [], ◌∷◌, Option, Some, None, refl, ap, ◌∙◌}
use Rattle.std.specs.Prelude.{MatchOption}
use Rattle.std.proofs.lemmas.Bool.{false≢true}
use Rattle.redodb_model.specs.Names.{Naming}
use Rattle.redodb_model.specs.State.{State, Records}
use Rattle.redodb_model.specs.Command.{Command, Lock, IfChange, Ood, Targets, Sources}
use Rattle.redodb_model.specs.Reply.{Refusal, Reply, Refused, lets_through}
use Rattle.redodb_model.specs.Step.{Tells, Replies, Answers, stale_reply, lock_reply, verdict_of, holds_target, effect_of, unless_refused, locks_after, after}

stale_through : {N : Type 0} (names : List N) → lets_through (stale_reply names) ≡ true
stale_through [] = refl
stale_through (n ∷ names) = refl

not_lock : {N : Type 0} (holder : Option ℕ) (grants : ℕ) (refusal : Refusal N)
    → Refused refusal ≡ lock_reply holder grants → ⊥
not_lock None grants refusal e = cc
not_lock (Some s) grants refusal e = cc

module _ {N : Type 0} (naming : Naming N) where
  -- the locks after a refusal
  pub refused_locks : (st : State N) (s : ℕ) (command : Command N) (refusal : Refusal N)
      → verdict_of naming st.records s (holds_target st.locks s command) command ≡ Some refusal
      → locks_after naming st.locks s (Some refusal) command ≡ st.locks
  refused_locks st s (Lock t) refusal v = absurd (cc)
  refused_locks st s x refusal v = refl

  -- the reply to an accepted command lets a guarded line through
  pub tells_through : (r : Records N) (command : Command N) (reply : Reply N)
      → Tells naming r command reply → lets_through reply ≡ true
  tells_through r (Lock t) reply told = absurd told
  tells_through r (IfChange t ns) reply (names, listed, is) =
      ap lets_through is ∙ stale_through names
  tells_through r Ood reply (names, listed, is) = ap lets_through is
  tells_through r Targets reply (names, listed, is) = ap lets_through is
  tells_through r Sources reply (names, listed, is) = ap lets_through is
  tells_through r command reply told = ap lets_through told

  by_verdict : (v : Option (Refusal N)) (st : State N) (s : ℕ) (command : Command N)
      (refusal : Refusal N)
      → verdict_of naming st.records s (holds_target st.locks s command) command ≡ v → MatchOption v
      (Tells naming st.records command (Refused refusal)) (λ given. Refused refusal ≡ Refused given)
      → record {
        records = unless_refused v st.records (effect_of naming st.records s command);
        locks = locks_after naming st.locks s v command;
      } ≡ st
  by_verdict None st s command refusal is told =
      absurd (false≢true (tells_through st.records command (Refused refusal) told))
  by_verdict (Some given) st s command refusal is told =
      λ i. record { records = st.records; locks = refused_locks st s command given is i }

  by_lock : (o : Option N) (st : State N) (s : ℕ) (command : Command N) (refusal : Refusal N)
      → MatchOption o (Replies naming st.records s (holds_target st.locks s command) command
      (Refused refusal)) (λ t. Refused refusal ≡ lock_reply (st.locks.holder t) (st.locks.grants t))
      → after naming st s command ≡ st
  by_lock None st s command refusal told = by_verdict _ st s command refusal refl told
  by_lock (Some t) st s command refusal told =
      absurd (not_lock (st.locks.holder t) (st.locks.grants t) refusal told)

  pub refused_same : (st : State N) (s : ℕ) (command : Command N) (refusal : Refusal N)
      → Answers naming st s command (Refused refusal) → after naming st s command ≡ st
  refused_same st s command refusal told = by_lock _ st s command refusal told
