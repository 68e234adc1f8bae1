-- A session's own lines determine what it holds and builds.
use Rattle.std.proofs.Common.{◌≡◌, ℕ, Bool, true, false, cond, not, List, [], ◌∷◌, ◌++◌, Option, Some, None, refl, sym, ap, ◌∙◌, subst, eqb, inl, inr}
use Rattle.std.specs.Prelude.{MatchOption}
use Rattle.std.proofs.lemmas.Bool.{cases_Bool, eqb-true, eq-eqb}
use Rattle.redodb_model.specs.Names.{Naming, put}
use Rattle.redodb_model.specs.Support.Names.{IsNaming}
use Rattle.redodb_model.specs.State.{State, Records, Cell, TargetState, Idle, Building, Built, target_state, is_building}
use Rattle.redodb_model.specs.State as states
use Rattle.redodb_model.specs.Command.{Command, File, Gone, Lock, Unlock, Start, Stamp, Done, Failed}
use Rattle.redodb_model.specs.Reply.{Reply, Refusal, NotLocked, NotBuilding, Okay, Refused}
use Rattle.redodb_model.specs.Reply as replies
use Rattle.redodb_model.specs.Step.{Answers, Tells, after, verdict_of, effect_of, unless_refused, locks_granted, locks_freed, lock_reply, holds_target, is_held_by, is_built_by}
use Rattle.redodb_model.specs.History.{Line, LegalFrom, left_by, part_of}
use Rattle.redodb_model.specs.Closing.{is_okay, is_granted, holds_then, builds_then, holds_after, builds_after}
use Rattle.redodb_model.proofs.Held.{to_put, holder_is, test_failed}

held_cond : (s : ℕ) (b : Bool) (x y : Option ℕ)
    → is_held_by s (cond b x y) ≡ cond b (is_held_by s x) (is_held_by s y)
held_cond s true x y = refl
held_cond s false x y = refl

built_cond : (s : ℕ) (b : Bool) (x y : Cell)
    → is_built_by s (cond b x y).state ≡ cond b (is_built_by s x.state) (is_built_by s y.state)
built_cond s true x y = refl
built_cond s false x y = refl

pub same_both : (b h : Bool) → h ≡ cond b h h
same_both true h = refl
same_both false h = refl

-- nobody builds what isn't building
pub not_built : (a : TargetState) (s : ℕ) → is_building a ≡ false → is_built_by s a ≡ false
not_built (Building b) s e = absurd (cc)
not_built state s e = refl

-- a session doesn't build what another one builds
built_by_other : (a : TargetState) (c s : ℕ) → not (is_built_by c a) ≡ false → eqb c s ≡ false
    → is_built_by s a ≡ false
built_by_other Idle c s e n = refl
built_by_other (Building b) c s e n = elim (cases_Bool (eqb b c)) [
  | inl is ↦ ap (λ k. eqb k s) (eqb-true b c is) ∙ n
  | inr is ↦ absurd (cc)
]
built_by_other Built c s e n = refl
built_by_other states.Failed c s e n = refl

module _ {N : Type 0} (naming : Naming N) where
  -- what a session holds after one line more
  pub holds_more : (t : N) (h : Bool) (own : List (Line N)) (line : Line N)
      → holds_after naming t h (own ++ line ∷ [])
      ≡ holds_then naming line.command line.reply t (holds_after naming t h own)
  holds_more t h [] line = refl
  holds_more t h (first ∷ own) line =
      holds_more t (holds_then naming first.command first.reply t h) own line

  -- and what it builds
  pub builds_more : (t : N) (b : Bool) (own : List (Line N)) (line : Line N)
      → builds_after naming t b (own ++ line ∷ [])
      ≡ builds_then naming line.command line.reply t (builds_after naming t b own)
  builds_more t b [] line = refl
  builds_more t b (first ∷ own) line =
      builds_more t (builds_then naming first.command first.reply t b) own line

module _ {N : Type 0} {naming : Naming N} (law : IsNaming naming) where
  lock_own : (o : Option ℕ) (st : State N) (s : ℕ) (u t : N) (reply : Reply N)
      → reply ≡ lock_reply o (st.locks.grants u)
      → is_held_by s ((locks_granted naming o st.locks s u).holder t)
      ≡ holds_then naming (Lock u) reply t (is_held_by s (st.locks.holder t))
  lock_own None st s u t reply told =
      let h = is_held_by s (st.locks.holder t) in
      held_cond s (naming.same u t) (Some s) (st.locks.holder t)
      ∙ ap (λ b. cond (naming.same u t) b h) (eq-eqb s s refl)
      ∙ ap (λ r. cond (is_granted r) (cond (naming.same u t) true h) h) (sym told)
  lock_own (Some c) st s u t reply told =
      let h = is_held_by s (st.locks.holder t) in
      ap (λ r. cond (is_granted r) (cond (naming.same u t) true h) h) (sym told)

  unlock_own : (v : Option (Refusal N)) (st : State N) (s : ℕ) (u t : N) (reply : Reply N)
      → MatchOption v (reply ≡ Okay) (λ refusal. reply ≡ Refused refusal)
      → is_held_by s ((unless_refused v st.locks (locks_freed naming st.locks u)).holder t)
      ≡ holds_then naming (Unlock u) reply t (is_held_by s (st.locks.holder t))
  unlock_own None st s u t reply told =
      let h = is_held_by s (st.locks.holder t) in
      held_cond s (naming.same u t) None (st.locks.holder t)
      ∙ ap (λ r. cond (is_okay r) (cond (naming.same u t) false h) h) (sym told)
  unlock_own (Some refusal) st s u t reply told =
      let h = is_held_by s (st.locks.holder t) in
      ap (λ r. cond (is_okay r) (cond (naming.same u t) false h) h) (sym told)

  -- how a session's line changes what it holds
  pub held_own : (st : State N) (s : ℕ) (command : Command N) (reply : Reply N) (t : N)
      → Answers naming st s command reply
      → is_held_by s ((after naming st s command).locks.holder t)
      ≡ holds_then naming command reply t (is_held_by s (st.locks.holder t))
  held_own st s (Lock u) reply t told = lock_own (st.locks.holder u) st s u t reply told
  held_own st s (Unlock u) reply t told =
      unlock_own (verdict_of naming st.records s (holds_target st.locks s (Unlock u)) (Unlock u)) st
      s u t reply told
  held_own st s command reply t told = refl

  lock_other : (o : Option ℕ) (st : State N) (s c : ℕ) (u t : N) → st.locks.holder u ≡ o
      → eqb c s ≡ false → is_held_by s ((locks_granted naming o st.locks c u).holder t)
      ≡ is_held_by s (st.locks.holder t)
  lock_other None st s c u t free n =
      to_put law (λ (o : Option ℕ). is_held_by s o ≡ is_held_by s (st.locks.holder t)) u t (Some c)
      st.locks.holder
      (λ d. n ∙ ap (is_held_by s) (sym free ∙ ap st.locks.holder d))
      (λ d. refl)
  lock_other (Some h) st s c u t held n = refl

  unlock_other : (v : Option (Refusal N)) (st : State N) (s c : ℕ) (u t : N)
      → verdict_of naming st.records c (is_held_by c (st.locks.holder u)) (Unlock u) ≡ v
      → eqb c s ≡ false
      → is_held_by s ((unless_refused v st.locks (locks_freed naming st.locks u)).holder t)
      ≡ is_held_by s (st.locks.holder t)
  unlock_other None st s c u t v n =
      let held : st.locks.holder u ≡ Some c =
      holder_is law c (st.locks.holder u)
      (test_failed (not (is_held_by c (st.locks.holder u))) NotLocked _ v).0 in
      to_put law (λ (o : Option ℕ). is_held_by s o ≡ is_held_by s (st.locks.holder t)) u t None
      st.locks.holder
      (λ d. sym n ∙ ap (is_held_by s) (sym held ∙ ap st.locks.holder d))
      (λ d. refl)
  unlock_other (Some refusal) st s c u t v n = refl

  -- another session's line doesn't change what a session holds
  pub held_other : (st : State N) (s c : ℕ) (command : Command N) (t : N) → eqb c s ≡ false
      → is_held_by s ((after naming st c command).locks.holder t)
      ≡ is_held_by s (st.locks.holder t)
  held_other st s c (Lock u) t n = lock_other (st.locks.holder u) st s c u t refl n
  held_other st s c (Unlock u) t n = unlock_other _ st s c u t refl n
  held_other st s c command t n = refl

  held_step : (b : Bool) (st : State N) (line : Line N) (part : List (Line N)) (s : ℕ) (t : N)
      → eqb line.session s ≡ b → Answers naming st line.session line.command line.reply
      → holds_after naming t (is_held_by s (st.locks.holder t)) (cond b (line ∷ part) part)
      ≡ holds_after naming t
      (is_held_by s ((after naming st line.session line.command).locks.holder t)) part
  held_step true st line part s t e told =
      ap (λ h. holds_after naming t h part)
      (sym (subst (λ u. is_held_by u ((after naming st line.session line.command).locks.holder t)
      ≡ holds_then naming line.command line.reply t (is_held_by u (st.locks.holder t)))
      (eqb-true line.session s e) (held_own st line.session line.command line.reply t told)))
  held_step false st line part s t e told =
      ap (λ h. holds_after naming t h part)
      (sym (held_other st s line.session line.command t e))

  -- a session's own lines determine whether it holds a target
  pub holds_by_part : (st : State N) (lines : List (Line N)) (s : ℕ) (t : N)
      → LegalFrom naming st lines
      → holds_after naming t (is_held_by s (st.locks.holder t)) (part_of s lines)
      ≡ is_held_by s ((left_by naming st lines).locks.holder t)
  holds_by_part st [] s t legal = refl
  holds_by_part st (line ∷ lines) s t legal =
      held_step (eqb line.session s) st line (part_of s lines) s t refl legal.0
      ∙ holds_by_part (after naming st line.session line.command) lines s t legal.1

  -- a new cell at n in the state that it had
  state_same : (r : Records N) (n t : N) (c : Cell) → c.state ≡ target_state r n
      → (put naming n c r.cell t).state ≡ target_state r t
  state_same r n t c e =
      to_put law (λ (d : Cell). d.state ≡ target_state r t) n t c r.cell
      (λ d. e ∙ ap (target_state r) d) (λ d. refl)

  kept : (r : Records N) (s : ℕ) (n t : N) (c : Cell) (reply : Reply N)
      → c.state ≡ target_state r n → is_built_by s (put naming n c r.cell t).state
      ≡ cond (is_okay reply) (is_built_by s (target_state r t)) (is_built_by s (target_state r t))
  kept r s n t c reply e =
      ap (is_built_by s) (state_same r n t c e)
      ∙ same_both (is_okay reply) (is_built_by s (target_state r t))

  changed : (r : Records N) (s : ℕ) (u t : N) (c : Cell) (builds : Bool) (reply : Reply N)
      → is_built_by s c.state ≡ builds → reply ≡ Okay
      → is_built_by s (put naming u c r.cell t).state
      ≡ cond (is_okay reply) (cond (naming.same u t) builds (is_built_by s (target_state r t)))
      (is_built_by s (target_state r t))
  changed r s u t c builds reply e told =
      let b = is_built_by s (target_state r t) in
      built_cond s (naming.same u t) c (r.cell t)
      ∙ ap (λ x. cond (naming.same u t) x b) e
      ∙ ap (λ r. cond (is_okay r) (cond (naming.same u t) builds b) b) (sym told)

  accepted_own : (r : Records N) (s : ℕ) (command : Command N) (reply : Reply N) (t : N)
      → Tells naming r command reply → is_built_by s (target_state (effect_of naming r s command) t)
      ≡ builds_then naming command reply t (is_built_by s (target_state r t))
  accepted_own r s (File n stamp) reply t told = kept r s n t _ reply refl
  accepted_own r s (Gone n) reply t told = kept r s n t _ reply refl
  accepted_own r s (Start u) reply t told = changed r s u t _ true reply (eq-eqb s s refl) told
  accepted_own r s (Stamp u content) reply t told = kept r s u t _ reply refl
  accepted_own r s (Done u stamp) reply t told = changed r s u t _ false reply refl told
  accepted_own r s (Failed u) reply t told = changed r s u t _ false reply refl told
  accepted_own r s command reply t told =
      same_both (is_okay reply) (is_built_by s (target_state r t))

  builds_by_verdict : (v : Option (Refusal N)) (r : Records N) (s : ℕ) (command : Command N)
      (reply : Reply N) (t : N)
      → MatchOption v (Tells naming r command reply) (λ refusal. reply ≡ Refused refusal)
      → is_built_by s (target_state (unless_refused v r (effect_of naming r s command)) t)
      ≡ builds_then naming command reply t (is_built_by s (target_state r t))
  builds_by_verdict None r s command reply t told = accepted_own r s command reply t told
  builds_by_verdict (Some refusal) r s command reply t told =
      let b = is_built_by s (target_state r t) in
      ap (λ x. builds_then naming command x t b) (sym told)

  -- how a session's line changes what it builds
  pub builds_own : (st : State N) (s : ℕ) (command : Command N) (reply : Reply N) (t : N)
      → Answers naming st s command reply
      → is_built_by s (target_state (after naming st s command).records t)
      ≡ builds_then naming command reply t (is_built_by s (target_state st.records t))
  builds_own st s (Lock u) reply t told =
      same_both (is_okay reply) (is_built_by s (target_state st.records t))
  builds_own st s command reply t told =
      builds_by_verdict (verdict_of naming st.records s (holds_target st.locks s command) command)
      st.records s command reply t told

  start_other : (r : Records N) (s c : ℕ) (u t : N) (d : Cell) → d.state ≡ Building c
      → is_building (target_state r u) ≡ false → eqb c s ≡ false
      → is_built_by s (put naming u d r.cell t).state ≡ is_built_by s (target_state r t)
  start_other r s c u t d is none n =
      to_put law (λ (x : Cell). is_built_by s x.state ≡ is_built_by s (target_state r t)) u t d
      r.cell
      (λ e. ap (is_built_by s) is ∙ n
      ∙ sym (not_built (target_state r t) s (ap (λ x. is_building (target_state r x)) (sym e)
      ∙ none)))
      (λ e. refl)

  end_other : (r : Records N) (s c : ℕ) (u t : N) (d : Cell) → is_built_by s d.state ≡ false
      → not (is_built_by c (target_state r u)) ≡ false → eqb c s ≡ false
      → is_built_by s (put naming u d r.cell t).state ≡ is_built_by s (target_state r t)
  end_other r s c u t d is builds n =
      to_put law (λ (x : Cell). is_built_by s x.state ≡ is_built_by s (target_state r t)) u t d
      r.cell
      (λ e. is ∙ sym (ap (λ x. is_built_by s (target_state r x)) (sym e)
      ∙ built_by_other (target_state r u) c s builds n))
      (λ e. refl)

  accepted_other : (r : Records N) (s c : ℕ) (h : Bool) (command : Command N) (t : N)
      → verdict_of naming r c h command ≡ None → eqb c s ≡ false
      → is_built_by s (target_state (effect_of naming r c command) t)
      ≡ is_built_by s (target_state r t)
  accepted_other r s c h (File m stamp) t v n = ap (is_built_by s) (state_same r m t _ refl)
  accepted_other r s c h (Gone m) t v n = ap (is_built_by s) (state_same r m t _ refl)
  accepted_other r s c h (Start u) t v n =
      start_other r s c u t _ refl
      (test_failed (is_building (target_state r u)) replies.Building None
      (test_failed (not h) NotLocked _ v).1).0 n
  accepted_other r s c h (Stamp u content) t v n = ap (is_built_by s) (state_same r u t _ refl)
  accepted_other r s c h (Done u stamp) t v n =
      end_other r s c u t _ refl
      (test_failed (not (is_built_by c (target_state r u))) NotBuilding None v).0 n
  accepted_other r s c h (Failed u) t v n =
      end_other r s c u t _ refl
      (test_failed (not (is_built_by c (target_state r u))) NotBuilding None v).0 n
  accepted_other r s c h command t v n = refl

  other_by_verdict : (v : Option (Refusal N)) (r : Records N) (s c : ℕ) (h : Bool)
      (command : Command N) (t : N) → verdict_of naming r c h command ≡ v → eqb c s ≡ false
      → is_built_by s (target_state (unless_refused v r (effect_of naming r c command)) t)
      ≡ is_built_by s (target_state r t)
  other_by_verdict None r s c h command t v n = accepted_other r s c h command t v n
  other_by_verdict (Some refusal) r s c h command t v n = refl

  -- another session's line doesn't change what a session builds
  pub builds_other : (st : State N) (s c : ℕ) (command : Command N) (t : N) → eqb c s ≡ false
      → is_built_by s (target_state (after naming st c command).records t)
      ≡ is_built_by s (target_state st.records t)
  builds_other st s c command t n = other_by_verdict _ st.records s c _ command t refl n

  builds_step : (b : Bool) (st : State N) (line : Line N) (part : List (Line N)) (s : ℕ) (t : N)
      → eqb line.session s ≡ b → Answers naming st line.session line.command line.reply
      → builds_after naming t (is_built_by s (target_state st.records t))
      (cond b (line ∷ part) part)
      ≡ builds_after naming t
      (is_built_by s (target_state (after naming st line.session line.command).records t)) part
  builds_step true st line part s t e told =
      ap (λ h. builds_after naming t h part)
      (sym (subst
      (λ u. is_built_by u (target_state (after naming st line.session line.command).records t)
      ≡ builds_then naming line.command line.reply t (is_built_by u (target_state st.records t)))
      (eqb-true line.session s e) (builds_own st line.session line.command line.reply t told)))
  builds_step false st line part s t e told =
      ap (λ h. builds_after naming t h part)
      (sym (builds_other st s line.session line.command t e))

  -- a session's own lines determine whether it builds a target
  pub builds_by_part : (st : State N) (lines : List (Line N)) (s : ℕ) (t : N)
      → LegalFrom naming st lines
      → builds_after naming t (is_built_by s (target_state st.records t)) (part_of s lines)
      ≡ is_built_by s (target_state (left_by naming st lines).records t)
  builds_by_part st [] s t legal = refl
  builds_by_part st (line ∷ lines) s t legal =
      builds_step (eqb line.session s) st line (part_of s lines) s t refl legal.0
      ∙ builds_by_part (after naming st line.session line.command) lines s t legal.1
