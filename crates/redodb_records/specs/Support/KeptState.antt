-- The meaning of a state in a cell.
use Rattle.std.specs.Prelude.{◌≡◌, refl}
use Rattle.redodb_model.specs.State as states
use Rattle.redodb_records.specs.declared.kept_state.KeptState.{KeptState}
use Rattle.redodb_records.specs.declared.kept_state.KeptState.TheVariants.{Idle, Building, Built, Failed}

abbrev pub kept_state_of : KeptState → states.TargetState
kept_state_of Idle = states.Idle
kept_state_of (Building session) = states.Building session
kept_state_of Built = states.Built
kept_state_of Failed = states.Failed

-- the state that means it
abbrev pub kept_state_for : states.TargetState → KeptState
kept_state_for states.Idle = Idle
kept_state_for (states.Building session) = Building session
kept_state_for states.Built = Built
kept_state_for states.Failed = Failed

pub kept_state_for-kept_state_of : (kept : KeptState)
    → kept_state_for (kept_state_of kept) ≡ kept
kept_state_for-kept_state_of Idle = refl
kept_state_for-kept_state_of state = refl
