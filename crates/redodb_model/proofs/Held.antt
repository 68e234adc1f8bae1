-- The builder of a building target holds it.
use Rattle.std.proofs.Common.{◌≡◌, ◌≢◌, ◌⊎◌, ℕ, Bool, true, false, cond, not, List, [], ◌∷◌, Option, Some, None, refl, sym, ap, ◌∙◌, subst, inl, inr, eqb}
use Rattle.std.proofs.lemmas.Bool.{cases_Bool, false≢true, eqb-true}
use Rattle.redodb_model.specs.Names.{Naming, put}
use Rattle.redodb_model.specs.Support.Names.{IsNaming}
use Rattle.redodb_model.specs.State.{State, Locks, Cell, TargetState, Building, target_state, is_building, empty}
use Rattle.redodb_model.specs.Command.{Command, File, Gone, Lock, Unlock, Start, Stamp, Done, Failed}
use Rattle.redodb_model.specs.Reply.{Refusal, NotLocked}
use Rattle.redodb_model.specs.Reply as replies
use Rattle.redodb_model.specs.Step.{verdict_of, effect_of, after, unless_refused, locks_after, locks_granted, holds_target, is_held_by, refusal_or}
use Rattle.redodb_model.specs.History.{Line, left_by}
use Rattle.redodb_model.proofs.Refused.{refused_locks}

-- the builder of each building target holds it
pub record BuildersHold {N : Type 0} (st : State N) : Type 0 where
  pub held : (t : N) (s : ℕ) → target_state st.records t ≡ Building s → st.locks.holder t ≡ Some s

-- a test that refused nothing was false
pub test_failed : {N : Type 0} (b : Bool) (refusal : Refusal N) (rest : Option (Refusal N))
    → refusal_or b refusal rest ≡ None → (b ≡ false) × (rest ≡ None)
test_failed true refusal rest e = absurd (cc)
test_failed false refusal rest e = (refl, e)

module _ {N : Type 0} {naming : Naming N} (law : IsNaming naming) where
  -- the value at m after a put at n
  pub from_put : {X : Type 0} (Q : X → Type 0) (n m : N) (x : X) (f : N → X)
      → Q (put naming n x f m) → ((n ≡ m) × Q x) ⊎ ((n ≢ m) × Q (f m))
  from_put Q n m x f q =
      elim (cases_Bool (naming.same n m)) [
        | inl e ↦ inl ((law.decides n m).0 e, subst (λ b. Q (cond b x (f m))) e q)
        | inr e ↦ inr (
          λ d. false≢true (sym e ∙ (law.decides n m).1 d),
          subst (λ b. Q (cond b x (f m))) e q,
        )
      ]

  pub to_put : {X : Type 0} (Q : X → Type 0) (n m : N) (x : X) (f : N → X) → (n ≡ m → Q x)
      → (n ≢ m → Q (f m)) → Q (put naming n x f m)
  to_put Q n m x f here there =
      elim (cases_Bool (naming.same n m)) [
        | inl e ↦ subst (λ b. Q (cond b x (f m))) (sym e) (here ((law.decides n m).0 e))
        | inr e ↦ subst (λ b. Q (cond b x (f m))) (sym e)
            (there (λ d. false≢true (sym e ∙ (law.decides n m).1 d)))
      ]

  pub holder_is : (s : ℕ) (o : Option ℕ) → not (is_held_by s o) ≡ false → o ≡ Some s
  holder_is s None e = absurd (cc)
  holder_is s (Some h) e =
      ap Some (eqb-true h s (elim (cases_Bool (eqb h s)) [ inl f ↦ f | inr f ↦ absurd (cc) ]))

  builds_some : (a : TargetState) (s : ℕ) → a ≡ Building s → is_building a ≡ false → ⊥
  builds_some a s e f = cc

  -- a new cell at n in the state that it had, or in one that is not Building
  at_cell : (st : State N) (n : N) (c : Cell) → BuildersHold st
      → ((s : ℕ) → c.state ≡ Building s → st.locks.holder n ≡ Some s) → (m : N) (s : ℕ)
      → (put naming n c st.records.cell m).state ≡ Building s → st.locks.holder m ≡ Some s
  at_cell st n c h own m s is =
      elim (from_put (λ (d : Cell). d.state ≡ Building s) n m c st.records.cell is) [
        | inl p ↦ subst (λ k. st.locks.holder k ≡ Some s) p.0 (own s p.1)
        | inr p ↦ h.held m s p.1
      ]

  held_at_lock : (o : Option ℕ) (st : State N) (s : ℕ) (t : N) → st.locks.holder t ≡ o
      → BuildersHold st → (m : N) (b : ℕ) → target_state st.records m ≡ Building b
      → (locks_granted naming o st.locks s t).holder m ≡ Some b
  held_at_lock None st s t e h m b is =
      to_put (λ (o : Option ℕ). o ≡ Some b) t m (Some s) st.locks.holder
      (λ d. let f = h.held m b is in let g : st.locks.holder t ≡ st.locks.holder m =
      ap st.locks.holder d in absurd (cc)) (λ d. h.held m b is)
  held_at_lock (Some o) st s t e h m b is = h.held m b is

  after_accepted : (st : State N) (s : ℕ) (command : Command N)
      → verdict_of naming st.records s (holds_target st.locks s command) command ≡ None
      → BuildersHold st → (m : N) (b : ℕ) → target_state (effect_of naming st.records s command) m
      ≡ Building b → (locks_after naming st.locks s None command).holder m ≡ Some b
  after_accepted st s (File n stamp) v h m b is = at_cell st n _ h (λ c e. h.held n c e) m b is
  after_accepted st s (Gone n) v h m b is = at_cell st n _ h (λ c e. h.held n c e) m b is
  after_accepted st s (Lock t) v h m b is = held_at_lock (st.locks.holder t) st s t refl h m b is
  after_accepted st s (Unlock t) v h m b is =
      let none =
      (test_failed (is_building (target_state st.records t)) replies.Building None
      (test_failed (not (is_held_by s (st.locks.holder t))) NotLocked _ v).1).0 in
      to_put (λ (o : Option ℕ). o ≡ Some b) t m None st.locks.holder (λ d. absurd
      (builds_some (target_state st.records t) b (ap (target_state st.records) d ∙ is) none))
      (λ d. h.held m b is)
  after_accepted st s (Start t) v h m b is =
      at_cell st t _ h (λ c e. let f : s ≡ c = cc in holder_is s (st.locks.holder t)
      (test_failed (not (is_held_by s (st.locks.holder t))) NotLocked _ v).0 ∙ ap Some f) m b is
  after_accepted st s (Stamp t content) v h m b is = at_cell st t _ h (λ c e. h.held t c e) m b is
  after_accepted st s (Done t stamp) v h m b is = at_cell st t _ h (λ c e. absurd (cc)) m b is
  after_accepted st s (Failed t) v h m b is = at_cell st t _ h (λ c e. absurd (cc)) m b is
  after_accepted st s command v h m b is = h.held m b is

  by_verdict : (st : State N) (s : ℕ) (command : Command N) (v : Option (Refusal N))
      → verdict_of naming st.records s (holds_target st.locks s command) command ≡ v
      → BuildersHold st → (m : N) (b : ℕ)
      → target_state (unless_refused v st.records (effect_of naming st.records s command)) m
      ≡ Building b → (locks_after naming st.locks s v command).holder m ≡ Some b
  by_verdict st s command None v h m b is = after_accepted st s command v h m b is
  by_verdict st s command (Some refusal) v h m b is =
      ap (λ (locks : Locks N). locks.holder m) (refused_locks naming st s command refusal v)
      ∙ h.held m b is

  pub builders_hold_after : (st : State N) (s : ℕ) (command : Command N) → BuildersHold st
      → BuildersHold (after naming st s command)
  builders_hold_after st s command h = record { held = by_verdict st s command _ refl h }

  pub builders_hold : (st : State N) (lines : List (Line N)) → BuildersHold st
      → BuildersHold (left_by naming st lines)
  builders_hold st [] h = h
  builders_hold st (line ∷ lines) h =
      builders_hold (after naming st line.session line.command) lines
      (builders_hold_after st line.session line.command h)

pub builders_hold_at_first : {N : Type 0} → BuildersHold (empty {N = N})
builders_hold_at_first {N} = record { held = λ t s e. absurd (cc) }
