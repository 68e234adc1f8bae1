-- Which refusal applies to a command, by its kind and by its names.
use Rattle.std.specs.Prelude.{ℕ, Bool, not, Option, None, find}
use Rattle.redodb_model.specs.Names.{Naming}
use Rattle.redodb_model.specs.State.{Records, TargetState, is_building, has_file}
use Rattle.redodb_model.specs.Reply.{Refusal, NotLocked, Building, NotBuilding, Itself}
use Rattle.redodb_model.specs.Step.{refusal_or, refusal_of_existing, is_built_by, is_among}
use Rattle.redodb_model.specs.Command as commands
use Rattle.redodb_commands.specs.declared.kind.Kind.{Kind}
pub use Rattle.redodb_commands.specs.Support.Meaning.{kind_for}
use Rattle.redodb_commands.specs.declared.kind.Kind.TheVariants.{Unlock, Start, IfChange, IfCreate, Always, Stamp, Done, Failed}

-- the first of these that applies: the session does not hold the target's lock, the target is
-- building
abbrev pub refusal_by_lock : Bool → TargetState → Option (Refusal ℕ)
refusal_by_lock holds state =
    refusal_or (not holds) NotLocked (refusal_or (is_building state) Building None)

-- the session is not building the target
abbrev pub refusal_by_build : ℕ → TargetState → Option (Refusal ℕ)
refusal_by_build s state = refusal_or (not (is_built_by s state)) NotBuilding None

-- the first refusal that applies whatever the names after the target are; `holds`: whether the
-- session holds the target's lock
abbrev pub refusal_by_target : TargetState → ℕ → Bool → Kind → Option (Refusal ℕ)
refusal_by_target state s holds Unlock = refusal_by_lock holds state
refusal_by_target state s holds Start = refusal_by_lock holds state
refusal_by_target state s holds IfChange = refusal_by_build s state
refusal_by_target state s holds IfCreate = refusal_by_build s state
refusal_by_target state s holds Always = refusal_by_build s state
refusal_by_target state s holds Stamp = refusal_by_build s state
refusal_by_target state s holds Done = refusal_by_build s state
refusal_by_target state s holds Failed = refusal_by_build s state
refusal_by_target state s holds kind = None

-- the first refusal for the names after the target: the target is among them; one of them has a
-- file
abbrev pub refusal_of_names : {N : Type 0} → Naming N → Records N → commands.Command N
    → Option (Refusal N)
refusal_of_names naming r (commands.IfChange t ns) = refusal_or (is_among naming ns t) Itself None
refusal_of_names naming r (commands.IfCreate t ns) =
    refusal_or (is_among naming ns t) Itself (refusal_of_existing (find (has_file r) ns))
refusal_of_names naming r command = None
