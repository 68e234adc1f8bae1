-- The kind and the target of a step.
use Rattle.std.specs.Prelude.{ℕ, Option, Some, None}
use Rattle.redodb_commands.specs.declared.kind.Kind.{Kind}
use Rattle.redodb_commands.specs.declared.kind.Kind.TheVariants as kinds
use Rattle.redodb_graph.specs.declared.step.Step.{Step}
use Rattle.redodb_graph.specs.declared.step.Step.TheVariants.{File, Gone, Lock, Unlock, Start, IfChange, IfCreate, Always, Stamp, Done, Failed, Ood, Targets, Sources}

abbrev pub step_kind : Step → Kind
step_kind (File n i) = kinds.File
step_kind (Gone n) = kinds.Gone
step_kind (Lock t) = kinds.Lock
step_kind (Unlock t) = kinds.Unlock
step_kind (Start t) = kinds.Start
step_kind (IfChange t list) = kinds.IfChange
step_kind (IfCreate t list) = kinds.IfCreate
step_kind (Always t) = kinds.Always
step_kind (Stamp t i) = kinds.Stamp
step_kind (Done t i) = kinds.Done
step_kind (Failed t) = kinds.Failed
step_kind Ood = kinds.Ood
step_kind Targets = kinds.Targets
step_kind Sources = kinds.Sources

-- the target of a step that can be refused
abbrev pub step_target : Step → Option ℕ
step_target (File n i) = None
step_target (Gone n) = None
step_target (Lock t) = None
step_target (Unlock t) = Some t
step_target (Start t) = Some t
step_target (IfChange t list) = Some t
step_target (IfCreate t list) = Some t
step_target (Always t) = Some t
step_target (Stamp t i) = Some t
step_target (Done t i) = Some t
step_target (Failed t) = Some t
step_target Ood = None
step_target Targets = None
step_target Sources = None
