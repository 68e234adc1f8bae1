use Rattle.std.proofs.Common.{◌≡◌, ◌↔◌, ℕ, Some, subst}
use Rattle.std.specs.List.{Contains}
use Rattle.redodb_model.specs.Names.{Text}
use Rattle.redodb_model.specs.State.{Building, target_state}
use Rattle.redodb_database.specs.Tables.{state_of}
use Rattle.redodb_live.specs.Support.LiveState.{LiveState, state_in}
use Rattle.redodb_live.proofs.Ending.{held_named}
use Rattle.redodb_live.proofs.live.Live.holders.Goals as goal
use Rattle.redodb_live.proofs.live.Live.holders.Goals.{In_ok-sessions}

members : (c : In_ok-sessions) → (s : ℕ) → Contains c.in_ok-sessions.sessions.items s
    ↔ ((t : Text) × ((state_in c.args.self.now).locks.holder t ≡ Some s))
members c s =
    let found = c.in_ok-sessions.ensures.holders s in
    let named =
    held_named c.self.inside.names c.are_names.ensures (state_of c.self.inside.redo)
    c.self.invariant.state.within s in
    subst (λ (live : LiveState). Contains c.in_ok-sessions.sessions.items s
    ↔ ((t : Text) × ((state_in live).locks.holder t ≡ Some s))) c.self.view_is
    (λ there. named.0 (found.0 there), λ held. found.1 (named.1 held))

pub returns-clause-holders : goal.returns-clause-holders
returns-clause-holders c = members c

pub returns-clause-builders : goal.returns-clause-builders
returns-clause-builders c = λ t s is.
    (members c s).1 (
      t,
      subst (λ (live : LiveState). target_state (state_in live).records t
          ≡ Building s → (state_in live).locks.holder t ≡ Some s) c.self.view_is
          (c.self.invariant.state.builders.held t s) is,
    )
