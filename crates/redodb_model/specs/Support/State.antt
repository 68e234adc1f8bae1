-- Tests of states, as values of `Bool`.
use Rattle.std.specs.Prelude.{Bool, true, false, not}
use Rattle.redodb_model.specs.State.{TargetState, Idle, Records, target_state}

abbrev pub is_idle : TargetState → Bool
is_idle Idle = true
is_idle state = false

-- a name is a target from its first start on
abbrev pub is_target : {N : Type 0} → Records N → N → Bool
is_target r n = not (is_idle (target_state r n))
