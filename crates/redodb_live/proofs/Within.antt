-- A step whose numbers are below a count keeps the state within it, and so are the numbers of its answer.
use Rattle.std.proofs.Common.{◌≡◌, ◌+◌, inl, inr, ℕ, ◌<◌, ◌≤◌, true, false, cond, List, [], ◌∷◌, Option, Some, None, is_some, refl, sym, ap, ◌∙◌, subst, get_or, arith, MatchOption}
use Rattle.std.proofs.lemmas.Bool.{ne_eqb, false≢true, cases_lt}
use Rattle.std.proofs.lemmas.List.Elements.{All-contains, All-from_recursion, recursion_from_All, Contains-get_or}
use Rattle.std.specs.List.{Contains}
use Rattle.std.specs.declared.cmp.Ordering.{Ordering}
use Rattle.redodb_model.specs.Names.{put, numbers}
use Rattle.redodb_model.specs.State.{State, Records, Locks, Cell, empty}
use Rattle.redodb_model.specs.Command.{Command, Lock, Unlock, Start, IfChange, Always, Ood, Targets, Sources, asked_lock}
use Rattle.redodb_model.specs.Reply.{Refusal, Reply, Refused}
use Rattle.redodb_model.specs.OutOfDate.{HasFile}
use Rattle.redodb_model.specs.Step.{Answers, Tells, Replies, after, effect_of, holds_target, locks_after, locks_granted, locks_freed, lock_reply, stale_reply, unless_refused, verdict_of}
use Rattle.redodb_model.specs.Renaming.{AllBelow, IsBelow, IsReplyBelow}
use Rattle.redodb_model.specs.Support.Renaming.{IsWithin}
use Rattle.redodb_model.proofs.Within.{within_after, within_empty}
use Rattle.redodb_model.proofs.VerdictsByName.{RefusesBelow, verdict_below}
use Rattle.redodb_live.specs.Support.Within.{IsStateWithin}

pub IsStateWithin-empty : (n : ℕ) → IsStateWithin n empty
IsStateWithin-empty n = record {
  records = within_empty n;
  always = λ k past. refl;
  holder = λ k past. refl;
  grants = λ k past. refl;
}

module _ (n : ℕ) (order : ℕ → ℕ → Ordering) where
  put_past : {X : Type 0} (t : ℕ) (v : X) (f : ℕ → X) (d : X) → t < n
      → ((k : ℕ) → n ≤ k → f k ≡ d) → (k : ℕ) → n ≤ k → put (numbers order) t v f k ≡ d
  put_past t v f d below none k past =
      ap (λ b. cond b v (f k)) (ne_eqb t k (λ e. absurd (omega arith))) ∙ none k past

  always_effect : (r : Records ℕ) (s : ℕ) (command : Command ℕ) → IsBelow n command
      → ((k : ℕ) → n ≤ k → r.rows.always k ≡ false) → (k : ℕ) → n ≤ k
      → (effect_of (numbers order) r s command).rows.always k ≡ false
  always_effect r s (Start t) below none = put_past t false r.rows.always false below.0 none
  always_effect r s (Always t) below none = put_past t true r.rows.always false below.0 none
  always_effect r s command below none = none

  always_unless : (v : Option (Refusal ℕ)) (old new : Records ℕ) (k : ℕ)
      → old.rows.always k ≡ false → new.rows.always k ≡ false
      → (unless_refused v old new).rows.always k ≡ false
  always_unless None old new k o e = e
  always_unless (Some refusal) old new k o e = o

  -- nobody holds what is past, and it was never granted
  record AreLocksWithin (locks : Locks ℕ) : Type 0 where
    holder : (k : ℕ) → n ≤ k → locks.holder k ≡ None
    grants : (k : ℕ) → n ≤ k → locks.grants k ≡ 0

  granted_within : (o : Option ℕ) (locks : Locks ℕ) (s t : ℕ) → t < n → AreLocksWithin locks
      → AreLocksWithin (locks_granted (numbers order) o locks s t)
  granted_within None locks s t below are = record {
    holder = put_past t (Some s) locks.holder None below are.holder;
    grants = grants_past;
  }
    where
      grants_past : (k : ℕ) → n ≤ k → put (numbers order) t (locks.grants t + 1) locks.grants k ≡ 0
      grants_past = put_past t (locks.grants t + 1) locks.grants 0 below are.grants
  granted_within (Some holder) locks s t below are = are

  freed_within : (v : Option (Refusal ℕ)) (locks : Locks ℕ) (t : ℕ) → t < n → AreLocksWithin locks
      → AreLocksWithin (unless_refused v locks (locks_freed (numbers order) locks t))
  freed_within None locks t below are = record {
    holder = put_past t None locks.holder None below are.holder;
    grants = are.grants;
  }
  freed_within (Some refusal) locks t below are = are

  locks_within : (locks : Locks ℕ) (s : ℕ) (v : Option (Refusal ℕ)) (command : Command ℕ)
      → IsBelow n command → AreLocksWithin locks
      → AreLocksWithin (locks_after (numbers order) locks s v command)
  locks_within locks s v (Lock t) below are = granted_within (locks.holder t) locks s t below.0 are
  locks_within locks s v (Unlock t) below are = freed_within v locks t below.0 are
  locks_within locks s v command below are = are

  pub IsStateWithin-after : (st : State ℕ) (s : ℕ) (command : Command ℕ) → IsStateWithin n st
      → IsBelow n command → IsStateWithin n (after (numbers order) st s command)
  IsStateWithin-after st s command within below =
      let holds = holds_target st.locks s command in
      let verdict = verdict_of (numbers order) st.records s holds command in
      let locks =
      locks_within st.locks s verdict command below
      (record { holder = within.holder; grants = within.grants }) in
      record {
        records = within_after n order st s command within.records below;
        always = λ k past. always_unless verdict st.records
            (effect_of (numbers order) st.records s command) k (within.always k past)
            (always_effect st.records s command below within.always k past);
        holder = locks.holder;
        grants = locks.grants;
      }

  -- the numbers of answers
  lock_below : (o : Option ℕ) (grants : ℕ) → IsReplyBelow n (lock_reply o grants)
  lock_below None grants = tt
  lock_below (Some holder) grants = tt

  stale_below : (ns : List ℕ) → AllBelow n ns → IsReplyBelow n (stale_reply ns)
  stale_below [] below = tt
  stale_below (m ∷ ns) below = below

  all_below : (ns : List ℕ) → ((k : ℕ) → Contains ns k → k < n) → AllBelow n ns
  all_below ns each =
      recursion_from_All (λ k. k < n) ns
      (λ i d in'. each (get_or ns i d) (Contains-get_or ns i d in'))

  pub in_list : (ks : List ℕ) (k : ℕ) → AllBelow n ks → Contains ks k → k < n
  in_list ks k below is =
      All-contains (λ j. j < n) ks k (All-from_recursion (λ j. j < n) ks below) is

  module _ (r : Records ℕ) (within : IsWithin n r) where
    pub file_below : (k : ℕ) → HasFile r k → k < n
    file_below k h = elim (cases_lt k n) [
      | inl l ↦ l
      | inr past ↦
          absurd (false≢true (sym (ap (λ (c : Cell). is_some c.file) (within.cells k past)) ∙ h))
    ]

    tells_below : (command : Command ℕ) (reply : Reply ℕ) → IsBelow n command
        → Tells (numbers order) r command reply → IsReplyBelow n reply
    tells_below (Lock t) reply below e = absurd e
    tells_below (IfChange t ns) reply below (stale, listed, e) =
        subst (IsReplyBelow n) (sym e)
        (stale_below stale (all_below stale (λ k c. in_list ns k below.1 ((listed.1 k).0 c).0)))
    tells_below Ood reply below (names, listed, e) =
        subst (IsReplyBelow n) (sym e) (all_below names (λ k c. file_below k ((listed.1 k).0 c).0))
    tells_below Targets reply below (names, listed, e) =
        subst (IsReplyBelow n) (sym e) (all_below names (λ k c. file_below k ((listed.1 k).0 c).0))
    tells_below Sources reply below (names, listed, e) =
        subst (IsReplyBelow n) (sym e) (all_below names (λ k c. file_below k ((listed.1 k).0 c).1))
    tells_below command reply below e = subst (IsReplyBelow n) (sym e) tt

    by_verdict : (v : Option (Refusal ℕ)) (command : Command ℕ) (reply : Reply ℕ)
        → IsBelow n command → RefusesBelow n v
        → MatchOption v (Tells (numbers order) r command reply) (λ refusal. reply ≡ Refused refusal)
        → IsReplyBelow n reply
    by_verdict None command reply below refuses h = tells_below command reply below h
    by_verdict (Some refusal) command reply below refuses h =
        subst (IsReplyBelow n) (sym h) refuses

  by_lock : (o : Option ℕ) (st : State ℕ) (s : ℕ) (command : Command ℕ) (reply : Reply ℕ)
      → IsStateWithin n st → IsBelow n command
      → MatchOption o
      (Replies (numbers order) st.records s (holds_target st.locks s command) command reply)
      (λ t. reply ≡ lock_reply (st.locks.holder t) (st.locks.grants t))
      → IsReplyBelow n reply
  by_lock None st s command reply within below h =
      by_verdict st.records within.records
      (verdict_of (numbers order) st.records s (holds_target st.locks s command) command) command
      reply below
      (verdict_below n order st.records s (holds_target st.locks s command) command below) h
  by_lock (Some t) st s command reply within below h =
      subst (IsReplyBelow n) (sym h) (lock_below (st.locks.holder t) (st.locks.grants t))

  pub IsReplyBelow-answers : (st : State ℕ) (s : ℕ) (command : Command ℕ) (reply : Reply ℕ)
      → IsStateWithin n st → IsBelow n command → Answers (numbers order) st s command reply
      → IsReplyBelow n reply
  IsReplyBelow-answers st s command reply within below h =
      by_lock (asked_lock command) st s command reply within below h
