-- How a command changes the locks, by the word that it steps on.
use Rattle.std.proofs.Common.{◌≡◌, ℕ, Bool, true, false, cond, not, ◌&&◌, Option, Some, None, refl, sym, ap, ◌∙◌, subst, eqb, eq-eqb, eqb-true}
use Rattle.std.specs.Prelude.{MatchOption}
use Rattle.std.specs.declared.cmp.Ordering.{Ordering}
use Rattle.redodb_model.specs.Names.{numbers}
use Rattle.redodb_model.specs.State.{State, TargetState, Building, target_state, is_building}
use Rattle.redodb_model.specs.Command.{Command, Lock, Unlock, asked_lock}
use Rattle.redodb_model.specs.Reply.{Refusal, NotLocked, Reply, Okay, Refused}
use Rattle.redodb_model.specs.Reply as replies
use Rattle.redodb_model.specs.Step.{Replies, verdict_of, locks_after, locks_freed, unless_refused, refusal_or, holds_target, is_held_by, is_built_by}
use Rattle.redodb_model.proofs.Held.{BuildersHold}
use Rattle.redodb_model.specs.Placed.{is_claim}
use Rattle.redodb_board.specs.Core.{Way, row, claim, free, way, builds_target}

module _ (order : ℕ → ℕ → Ordering) (st : State ℕ) (s : ℕ) where
  abbrev pub verdict : Command ℕ → Option (Refusal ℕ)
  verdict x = verdict_of (numbers order) st.records s (holds_target st.locks s x) x

  -- the command on this kind of word, and the locks after it
  abbrev pub Goes : Command ℕ → Way → Type 0
  Goes x row =
      (asked_lock x ≡ None) × (locks_after (numbers order) st.locks s (verdict x) x ≡ st.locks)
      ×
      ((reply : Reply ℕ)
      → Replies (numbers order) st.records s (holds_target st.locks s x) x reply
      → is_claim x reply ≡ false)
  Goes x (claim t) = x ≡ Lock t
  Goes x (free t) = (x ≡ Unlock t) × (verdict (Unlock t) ≡ None) × (st.locks.holder t ≡ Some s)

  held_by : (o : Option ℕ) → is_held_by s o ≡ true → o ≡ Some s
  held_by None e = absurd (cc)
  held_by (Some h) e = ap Some (eqb-true h s e)

  -- the builder of a building target holds it
  free_rests : (t : ℕ) (a : TargetState) → target_state st.records t ≡ a → BuildersHold st
      → st.locks.holder t ≡ Some s → is_built_by s a ≡ false → is_building a ≡ false
  free_rests t (Building b) is h own isnt = let f = h.held t b is in
      let e : Some b ≡ Some s = sym f ∙ own in
      let g : eqb b s ≡ true = eq-eqb b s (cc) in
      absurd (cc)
  free_rests t state is h own isnt = refl

  builds_so : (a : TargetState) → is_built_by s a ≡ true → is_building a ≡ true
  builds_so (Building b) e = refl
  builds_so state e = cc

  -- an unlock that is refused
  refused : (t : ℕ) (f : Refusal ℕ) → verdict (Unlock t) ≡ Some f → Goes (Unlock t) row
  refused t f e = (
    refl,
    ap (λ v. unless_refused v st.locks (locks_freed (numbers order) st.locks t)) e,
    λ reply r. said reply
        (subst (λ v. MatchOption v (reply ≡ Okay) (λ g. reply ≡ Refused g)) e r),
  )
    where
      said : (reply : Reply ℕ) → reply ≡ Refused f → is_claim (Unlock t) reply ≡ false
      said reply e = ap (is_claim (Unlock t)) e

  unlocks : (t : ℕ) (h b : Bool) → is_held_by s (st.locks.holder t) ≡ h
      → is_built_by s (target_state st.records t) ≡ b → BuildersHold st
      → Goes (Unlock t) (cond (h && not b) (free t) row)
  unlocks t true true he be l =
      refused t replies.Building
      (λ i. refusal_or (not (he i)) NotLocked
      (refusal_or (builds_so (target_state st.records t) be i) replies.Building None))
  unlocks t true false he be l =
      let own = held_by (st.locks.holder t) he in
      let rests = free_rests t (target_state st.records t) refl l own be in (
        refl,
        (λ i. refusal_or (not (he i)) NotLocked (refusal_or (rests i) replies.Building None)),
        own,
      )
  unlocks t false b he be l =
      refused t NotLocked
      (λ i. refusal_or (not (he i)) NotLocked
      (refusal_or (is_building (target_state st.records t)) replies.Building None))

  pub goes : (x : Command ℕ) → BuildersHold st
      → Goes x (way x (holds_target st.locks s x) (builds_target st.records s x))
  goes (Lock t) l = refl
  goes (Unlock t) l =
      unlocks t (is_held_by s (st.locks.holder t)) (is_built_by s (target_state st.records t)) refl
      refl l
  goes x l = (refl, refl, λ reply r. refl)
