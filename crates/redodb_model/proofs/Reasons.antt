-- A target with a reason is out of date by it.
use Rattle.std.proofs.Common.{◌≡◌, ◌⊎◌, IsTrue, sym, subst, inl, inr}
use Rattle.std.proofs.lemmas.Bool.{false≢true}
use Rattle.redodb_model.specs.State as states
use Rattle.redodb_model.specs.State.{Records, TargetState, target_state, is_building}
use Rattle.redodb_model.specs.OutOfDate.{ReasonIn, HasReason, IsEdited, SomeAppeared, SomeChanged}
use Rattle.redodb_model.specs.Why.{Reason, Building, Failed, Edited, Always, Appeared, Changed, IsReason}

module _ {N : Type 0} (r : Records N) (t : N) where
  building_has_reason : (state : TargetState) → IsTrue (is_building state) → ReasonIn state r t
  building_has_reason states.Idle is = false≢true is
  building_has_reason states.Built is = absurd (false≢true is)
  building_has_reason state is = tt

  built_has_reason : target_state r t ≡ states.Built
      → IsEdited r t ⊎ (IsTrue (r.rows.always t) ⊎ (SomeAppeared r t ⊎ SomeChanged r t))
      → HasReason r t
  built_has_reason built reason = subst (λ state. ReasonIn state r t) (sym built) reason

  pub reason_applies : (reason : Reason N) → IsReason r t reason → HasReason r t
  reason_applies Building is = building_has_reason (target_state r t) is
  reason_applies Failed is = subst (λ state. ReasonIn state r t) (sym is) tt
  reason_applies Edited is = built_has_reason is.0 (inl is.1)
  reason_applies Always is = built_has_reason is.0 (inr (inl is.1))
  reason_applies (Appeared n) is = built_has_reason is.0 (inr (inr (inl (n, is.1, is.2))))
  reason_applies (Changed n) is =
      built_has_reason is.0 (inr (inr (inr (n, is.1.0, is.1.1, is.1.2))))
