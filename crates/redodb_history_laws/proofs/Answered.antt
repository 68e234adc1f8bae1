-- A line is valid at its place (`Stands`) exactly if it has the database's reply there.
use Rattle.std.proofs.Common.{◌≡◌, ℕ, ◌+◌, Bool, true, false, not, List, Option, Some, None, refl, sym, ap, ◌∙◌, subst, arith}
use Rattle.std.specs.Prelude.{MatchOption}
use Rattle.std.proofs.lemmas.Bool.{false≢true}
use Rattle.redodb_model.specs.Names.{Naming}
use Rattle.redodb_model.specs.State.{State, Records, Locks, TargetState, Building, target_state, is_building}
use Rattle.redodb_model.specs.Command.{Command, Lock, Unlock, target_of}
use Rattle.redodb_model.specs.Reply.{Refusal, Reply, Okay, Refused, NotLocked}
use Rattle.redodb_model.specs.Reply as replies
use Rattle.redodb_model.specs.Step.{verdict_of, after, Answers, Replies, records_after, unless_refused, locks_after, locks_granted, locks_freed, holds_target, is_held_by, is_built_by, refusal_or, lock_reply}
use Rattle.redodb_model.proofs.Held.{test_failed}
use Rattle.redodb_model.specs.Placed.{Place, Row, Granted, Busy, Released, PlacedLine, is_claim, Fits, part_of, Follows}
use Rattle.redodb_model.specs.Support.Placed.{holds_by}
use Rattle.redodb_history_laws.specs.ByRows.{Stands}
use Rattle.redodb_history_laws.proofs.Own.{not_false, not_building}
use Rattle.redodb_history_laws.proofs.Tied.{none_of, some_of, Tied, flag, state_by}

module _ {N : Type 0} (naming : Naming N) where
  -- a row doesn't change the locks
  unlock_refused : (verdict : Option (Refusal N)) (reply : Reply N) (locks : Locks N) (t : N)
      → is_claim (Unlock t) reply ≡ false
      → MatchOption verdict (reply ≡ Okay) (λ refusal. reply ≡ Refused refusal)
      → unless_refused verdict locks (locks_freed naming locks t) ≡ locks
  unlock_refused None reply locks t e told =
      absurd (false≢true (sym e ∙ ap (is_claim (Unlock t)) told))
  unlock_refused (Some refusal) reply locks t e told = refl

  row_locks : (records : Records N) (locks : Locks N) (s : ℕ) (held : Bool) (command : Command N)
      (reply : Reply N)
      → is_claim command reply ≡ false → Replies naming records s held command reply
      → locks_after naming locks s (verdict_of naming records s held command) command ≡ locks
  row_locks records locks s held (Lock t) reply e told = absurd told
  row_locks records locks s held (Unlock t) reply e told =
      unlock_refused (verdict_of naming records s held (Unlock t)) reply locks t e told
  row_locks records locks s held x reply e told = refl

  lock_claims : (holder : Option ℕ) (g : ℕ) (t : N) (reply : Reply N) → reply ≡ lock_reply holder g
      → is_claim (Lock t) reply ≡ true
  lock_claims None g t reply e = ap (is_claim (Lock t)) e
  lock_claims (Some h) g t reply e = ap (is_claim (Lock t)) e

  -- but for a claim, the reply is that of the records
  row_answers : (state : State N) (s : ℕ) (command : Command N) (reply : Reply N)
      → is_claim command reply ≡ false
      → Answers naming state s command reply
      → Replies naming state.records s (holds_target state.locks s command) command reply
  row_answers state s (Lock t) reply e a =
      absurd
      (false≢true (sym e ∙ lock_claims (state.locks.holder t) (state.locks.grants t) t reply a))
  row_answers state s x reply e a = a

  answers_row : (state : State N) (s : ℕ) (command : Command N) (reply : Reply N)
      → Replies naming state.records s (holds_target state.locks s command) command reply
      → Answers naming state s command reply
  answers_row state s (Lock t) reply a = absurd a
  answers_row state s x reply a = a

  -- a fact about commands and replies, from one about each of their cases
  at_line : {asked command : Command N} {told reply : Reply N}
      (P : Command N → Reply N → Type 0)
      → asked ≡ command → told ≡ reply → P command reply → P asked told
  at_line {asked} {command} {told} {reply} P e f h =
      subst (λ c. P c told) (sym e) (subst (λ r. P command r) (sym f) h)

  -- nobody held a lock that is granted
  free_where_granted : (holder : Option ℕ) (grants g : ℕ)
      → (let reply : Reply N = replies.Granted g in reply ≡ lock_reply holder grants)
      → holder ≡ None
  free_where_granted None grants g e = refl
  free_where_granted (Some h) grants g e = absurd (cc)

  held_where_busy : (holder : Option ℕ) (grants g : ℕ)
      → (let reply : Reply N = replies.Busy g in reply ≡ lock_reply holder grants)
      → (h : ℕ) × (holder ≡ Some h)
  held_where_busy None grants g e = absurd (cc)
  held_where_busy (Some h) grants g e = (h, refl)

  after_granted : (state : State N) (own : List (PlacedLine N)) (s : ℕ) (t : N) (g : ℕ)
      → state.locks.holder t ≡ None
      → after naming state s (Lock t) ≡ state_by naming (Granted t g) state own s (Lock t)
  after_granted state own s t g e =
      λ i. record { records = state.records; locks = locks_granted naming (e i) state.locks s t }

  after_busy : (state : State N) (own : List (PlacedLine N)) (s : ℕ) (t : N) (g h : ℕ)
      → state.locks.holder t ≡ Some h
      → after naming state s (Lock t) ≡ state_by naming (Busy t g) state own s (Lock t)
  after_busy state own s t g h e =
      λ i. record { records = state.records; locks = locks_granted naming (e i) state.locks s t }

  -- an unlock that is accepted
  after_freed : (state : State N) (own : List (PlacedLine N)) (s : ℕ) (t : N) (g : ℕ)
      → verdict_of naming state.records s (holds_target state.locks s (Unlock t)) (Unlock t) ≡ None
      → after naming state s (Unlock t) ≡ state_by naming (Released t g) state own s (Unlock t)
  after_freed state own s t g e =
      λ i.
      record {
        records = unless_refused (e i) state.records state.records;
        locks = unless_refused (e i) state.locks (locks_freed naming state.locks t);
      }

  freed_verdict : (verdict : Option (Refusal N))
      → MatchOption verdict (let reply : Reply N = Okay in reply ≡ Okay)
      (λ refusal. Okay ≡ Refused refusal)
      → verdict ≡ None
  freed_verdict None a = refl
  freed_verdict (Some refusal) a = absurd (cc)

  -- if a session holds a target and doesn't build it, nobody builds it
  built_by_none : (a : TargetState) (s : ℕ) (holder : Option ℕ)
      → ((b : ℕ) → a ≡ Building b → holder ≡ Some b)
      → is_held_by s holder ≡ true → is_built_by s a ≡ false → is_building a ≡ false
  built_by_none (Building b) s holder own held e =
      absurd (false≢true (sym e ∙ subst (λ z. is_held_by s z ≡ true) (own b refl) held))
  built_by_none state s holder own held e = refl

  accepted_unlock : (state : State N) (s : ℕ) (t : N) → is_held_by s (state.locks.holder t) ≡ true
      → is_building (target_state state.records t) ≡ false
      → verdict_of naming state.records s (holds_target state.locks s (Unlock t)) (Unlock t) ≡ None
  accepted_unlock state s t held e =
      λ i. refusal_or (not (held i)) NotLocked (refusal_or (e i) replies.Building None)

  row_after : (state : State N) (own : List (PlacedLine N)) (s : ℕ) (command : Command N)
      (reply : Reply N)
      (r : ℕ)
      → holds_by naming own (target_of command) ≡ holds_target state.locks s command
      → is_claim command reply ≡ false
      → Replies naming state.records s (holds_target state.locks s command) command reply
      → after naming state s command ≡ state_by naming (Row r) state own s command
  row_after state own s command reply r f fits told =
      λ i.
      record {
        records = records_after naming state.records s (sym f i) command;
        locks =
            row_locks state.records state.locks s (holds_target state.locks s command)
            command reply fits
            told i;
      }

  -- an answered line is valid
  pub from_answers : (state : State N) (before : List (PlacedLine N)) (s : ℕ) (command : Command N)
      (reply : Reply N) (place : Place N)
      → Tied naming state before → Fits place command reply → Answers naming state s command reply
      → Stands naming place state.records (part_of s before) s command reply
      × (after naming state s command ≡ state_by naming place state (part_of s before) s command)
  from_answers state before s command reply (Row r) tied fits a =
      let told = row_answers state s command reply fits a in
      let f = flag naming state before s (target_of command) tied in (
        subst (λ h. Replies naming state.records s h command reply) (sym f) told,
        row_after state (part_of s before) s command reply r f fits told,
      )
  from_answers state before s command reply (Granted t g) tied fits a =
      let b : Answers naming state s (Lock t) (replies.Granted g) =
      at_line (λ d q. Answers naming state s d q) (sym fits.0) (sym fits.1) a in (
        tt,
        at_line {told = reply} {reply = reply}
            (λ d q. after naming state s d
            ≡ state_by naming (Granted t g) state (part_of s before) s d)
            fits.0
            refl
            (after_granted state (part_of s before) s t g
            (free_where_granted (state.locks.holder t) (state.locks.grants t) g b)),
      )
  from_answers state before s command reply (Busy t g) tied fits a =
      let b : Answers naming state s (Lock t) (replies.Busy g) =
      at_line (λ d q. Answers naming state s d q) (sym fits.0) (sym fits.1) a in
      let h = held_where_busy (state.locks.holder t) (state.locks.grants t) g b in (
        tt,
        at_line {told = reply} {reply = reply}
            (λ d q. after naming state s d
            ≡ state_by naming (Busy t g) state (part_of s before) s d)
            fits.0
            refl (after_busy state (part_of s before) s t g h.0 h.1),
      )
  from_answers state before s command reply (Released t g) tied fits a =
      let b : Answers naming state s (Unlock t) Okay =
      at_line (λ d q. Answers naming state s d q) (sym fits.0) (sym fits.1) a in
      let v =
      freed_verdict
      (verdict_of naming state.records s (holds_target state.locks s (Unlock t)) (Unlock t))
      b in
      let first = test_failed (not (is_held_by s (state.locks.holder t))) NotLocked _ v in
      let second =
      test_failed (is_building (target_state state.records t)) replies.Building None first.1 in (
        (
          flag naming state before s (Some t) tied
              ∙ not_false (is_held_by s (state.locks.holder t)) first.0,
          not_building (target_state state.records t) s second.0,
        ),
        at_line {told = reply} {reply = reply}
            (λ d q. after naming state s d
            ≡ state_by naming (Released t g) state (part_of s before) s d)
            fits.0
            refl (after_freed state (part_of s before) s t g v),
      )

  -- a valid line is answered
  pub from_stands : (state : State N) (before : List (PlacedLine N)) (s : ℕ) (command : Command N)
      (reply : Reply N) (place : Place N)
      → Tied naming state before → Fits place command reply → Follows naming before place
      → Stands naming place state.records (part_of s before) s command reply
      → Answers naming state s command reply
  from_stands state before s command reply (Row r) tied fits follows h =
      answers_row state s command reply
      (subst (λ b. Replies naming state.records s b command reply)
      (flag naming state before s (target_of command) tied)
      h)
  from_stands state before s command reply (Granted t g) tied fits follows h =
      let a = follows.0 in let b = follows.1 in let d = tied.held t in
      let none = none_of (state.locks.holder t) (omega arith) in
      let e : g ≡ state.locks.grants t + 1 = let f = tied.grants t in omega arith in
      at_line (λ x y. Answers naming state s x y) fits.0 fits.1
      (ap replies.Granted e ∙ ap (λ o. lock_reply o (state.locks.grants t)) (sym none))
  from_stands state before s command reply (Busy t g) tied fits follows h =
      let a = follows.0 in let b = follows.1 in let d = tied.held t in
      let some = some_of (state.locks.holder t) (omega arith) in
      let e : g ≡ state.locks.grants t = let f = tied.grants t in omega arith in
      at_line (λ x y. Answers naming state s x y) fits.0 fits.1
      (ap replies.Busy e ∙ ap (λ o. lock_reply o (state.locks.grants t)) (sym some.1))
  from_stands state before s command reply (Released t g) tied fits follows h =
      let held = sym (flag naming state before s (Some t) tied) ∙ h.0 in
      let e =
      built_by_none (target_state state.records t) s (state.locks.holder t)
      (λ b. tied.builders.held t b)
      held h.1 in
      at_line (λ x y. Answers naming state s x y) fits.0 fits.1
      (subst
      (λ v. MatchOption v (let r : Reply N = Okay in r ≡ Okay)
      (λ refusal. Okay ≡ Refused refusal))
      (sym (accepted_unlock state s t held e)) refl)
