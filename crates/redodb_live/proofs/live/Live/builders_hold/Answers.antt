use Rattle.std.proofs.Common.{◌≡◌, ℕ, Some, subst}
use Rattle.redodb_model.specs.Names.{Text}
use Rattle.redodb_model.specs.State.{Building, target_state}
use Rattle.redodb_live.specs.Support.LiveState.{LiveState, state_in}
use Rattle.redodb_live.proofs.live.Live.builders_hold.Goals as goal

pub returns : goal.returns
returns c =
    subst (λ (live : LiveState). (t : Text) (s : ℕ)
    → target_state (state_in live).records t ≡ Building s
    → (state_in live).locks.holder t ≡ Some s) c.self.view_is
    c.self.invariant.state.builders.held
