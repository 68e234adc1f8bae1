-- Where a step changes records.
use Rattle.std.specs.Prelude.{◌≡◌, ℕ, [], ◌∷◌, Option, Some, None}
use Rattle.redodb_model.specs.Command.{Command}
use Rattle.redodb_model.specs.Support.OutOfDate.{DifferAt}
use Rattle.redodb_model.specs.Names.{by_number}
use Rattle.redodb_model.specs.State.{Records}
use Rattle.redodb_model.specs.Step.{effect_of}
use Rattle.redodb_graph.specs.declared.step.Step.{Step}
use Rattle.redodb_graph.specs.declared.step.Step.TheVariants.{File, Gone, Lock, Unlock, Start, IfChange, IfCreate, Always, Stamp, Done, Failed, Ood, Targets, Sources}
use Rattle.redodb_graph.specs.Steps.{TablesOf, Means}

-- the name or target of a step that can change records
abbrev pub step_seed : Step → Option ℕ
step_seed (File n i) = Some n
step_seed (Gone n) = Some n
step_seed (Lock t) = None
step_seed (Unlock t) = None
step_seed (Start t) = Some t
step_seed (IfChange t list) = Some t
step_seed (IfCreate t list) = Some t
step_seed (Always t) = Some t
step_seed (Stamp t i) = Some t
step_seed (Done t stamp) = Some t
step_seed (Failed t) = Some t
step_seed Ood = None
step_seed Targets = None
step_seed Sources = None

-- records differ only at the seed; without a seed they are equal
abbrev pub DifferBy : Option ℕ → Records ℕ → Records ℕ → Type 0
DifferBy None old new = new ≡ old
DifferBy (Some n) old new = DifferAt (n ∷ []) old new

-- whatever command the step stands for, its effect changes the records at the seed alone
abbrev pub IsSeed : TablesOf → Step → Records ℕ → Option ℕ → Type 0
IsSeed tables step r seed = (s : ℕ) (x : Command ℕ) → Means tables step x
    → DifferBy seed r (effect_of by_number r s x)
