-- What the marks and states of the code mean.
use Rattle.redodb_model.specs.State as states
use Rattle.redodb_records.specs.declared.mark.Mark.{Mark}
use Rattle.redodb_records.specs.declared.mark.Mark.TheVariants.{Digest, Builds, Pending, File, Absent}
use Rattle.redodb_records.specs.declared.state.State.{State}
use Rattle.redodb_records.specs.declared.state.State.TheVariants.{Idle, Building, Built, Failed}

abbrev pub row_mark_of : Mark → states.Mark
row_mark_of (Digest digest) = states.Digest digest
row_mark_of (Builds builds) = states.Builds builds
row_mark_of Pending = states.Pending
row_mark_of (File stamp) = states.File stamp
row_mark_of Absent = states.Absent

abbrev pub target_state_of : State → states.TargetState
target_state_of Idle = states.Idle
target_state_of (Building s) = states.Building s
target_state_of Built = states.Built
target_state_of Failed = states.Failed
