-- What is left when several sessions have ended.
use Rattle.std.proofs.Common.{◌≡◌, ◌∙◌, ℕ, Bool, true, false, cond, List, [], ◌∷◌, Option, Some, None, refl, sym, ap, inl, inr}
use Rattle.std.specs.List.{Contains}
use Rattle.std.proofs.lemmas.Bool.{false≢true, eq-eqb}
use Rattle.redodb_model.specs.Names.{Text}
use Rattle.redodb_model.specs.State.{State, Cell, TargetState, Idle, Building, Built, Failed, is_building, target_state}
use Rattle.redodb_model.specs.Step.{is_built_by, is_held_by}
use Rattle.redodb_model.specs.Support.Ending.{state_without}
use Rattle.redodb_model.proofs.Members.{contains_cases, contains_none}
use Rattle.redodb_live.specs.Support.Ended.{without_each}

-- another session is among the rest
among_rest : (r s : ℕ) (rs : List ℕ) → (r ≡ s → ⊥) → Contains (r ∷ rs) s → Contains rs s
among_rest r s rs other there = elim (contains_cases r rs s there) [
  | inl same ↦ absurd (other same)
  | inr later ↦ later
]

other_holder : (r s : ℕ) (o : Option ℕ) (b : Bool) → is_held_by r o ≡ b
    → cond b None o ≡ Some s → (o ≡ Some s) × (r ≡ s → ⊥)
other_holder r s o true e is = absurd (cc)
other_holder r s o false e is =
    (is, λ same. false≢true (sym e ∙ ap (is_held_by r) is ∙ eq-eqb s r (sym same)))

pub held_out : (sessions : List ℕ) (st : State Text) (t : Text)
    → ((s : ℕ) → st.locks.holder t ≡ Some s → Contains sessions s)
    → (without_each sessions st).locks.holder t ≡ None
held_out [] st t all = free (st.locks.holder t) refl
  where
    free : (o : Option ℕ) → st.locks.holder t ≡ o → st.locks.holder t ≡ None
    free None e = e
    free (Some s) e = absurd (contains_none s (all s e))
held_out (r ∷ rs) st t all =
    held_out rs (state_without r st) t (λ s is.
    let both = other_holder r s (st.locks.holder t) (is_held_by r (st.locks.holder t)) refl is in
    among_rest r s rs both.1 (all s both.0))

other_builder : (r s : ℕ) (c : Cell) (b : Bool) → is_built_by r c.state ≡ b
    → (cond b (record c { state = Failed }) c).state ≡ Building s
    → (c.state ≡ Building s) × (r ≡ s → ⊥)
other_builder r s c true e is = absurd (cc)
other_builder r s c false e is =
    (is, λ same. false≢true (sym e ∙ ap (is_built_by r) is ∙ eq-eqb s r (sym same)))

pub built_out : (sessions : List ℕ) (st : State Text) (t : Text)
    → ((s : ℕ) → target_state st.records t ≡ Building s → Contains sessions s)
    → is_building (target_state (without_each sessions st).records t) ≡ false
built_out [] st t all = rests (target_state st.records t) refl
  where
    rests : (a : TargetState) → target_state st.records t ≡ a
        → is_building (target_state st.records t) ≡ false
    rests Idle e = ap is_building e
    rests (Building s) e = absurd (contains_none s (all s e))
    rests Built e = ap is_building e
    rests Failed e = ap is_building e
built_out (r ∷ rs) st t all =
    built_out rs (state_without r st) t (λ s is.
    let both = other_builder r s (st.records.cell t) (is_built_by r (target_state st.records t))
    refl is in
    among_rest r s rs both.1 (all s both.0))
