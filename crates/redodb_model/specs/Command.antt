-- The commands of a session.
use Rattle.std.specs.Prelude.{Bool, List, [], ◌∷◌, map, Option, Some, None}
use Rattle.redodb_model.specs.Names.{Text}

pub data Command (N : Type 0) : Type 0 where
  File : N → Text → Command N
  Gone : N → Command N
  Lock : N → Command N
  Unlock : N → Command N
  Start : N → Command N
  IfChange : N → List N → Command N
  IfCreate : N → List N → Command N
  Always : N → Command N
  Stamp : N → Text → Command N
  Done : N → Option Text → Command N
  Failed : N → Command N
  Ood : Command N
  Targets : Command N
  Sources : Command N

-- a line of a script: a command, and whether it is done only if the reply before lets it through
pub record Item (N : Type 0) : Type 0 where
  pub guarded : Bool
  pub command : Command N

-- the commands of a script
abbrev pub commands_in : {N : Type 0} → List (Item N) → List (Command N)
commands_in script = map (λ item. item.command) script

-- the target of a command that has one of its own
abbrev pub target_of : {N : Type 0} → Command N → Option N
target_of (File n stamp) = None
target_of (Gone n) = None
target_of (Lock t) = Some t
target_of (Unlock t) = Some t
target_of (Start t) = Some t
target_of (IfChange t ns) = Some t
target_of (IfCreate t ns) = Some t
target_of (Always t) = Some t
target_of (Stamp t content) = Some t
target_of (Done t stamp) = Some t
target_of (Failed t) = Some t
target_of Ood = None
target_of Targets = None
target_of Sources = None

-- the name that a `lock` is about
abbrev pub asked_lock : {N : Type 0} → Command N → Option N
asked_lock (Lock t) = Some t
asked_lock command = None

-- its names, in the order in which they are written
abbrev pub names_in : {N : Type 0} → Command N → List N
names_in (File n stamp) = n ∷ []
names_in (Gone n) = n ∷ []
names_in (Lock t) = t ∷ []
names_in (Unlock t) = t ∷ []
names_in (Start t) = t ∷ []
names_in (IfChange t ns) = t ∷ ns
names_in (IfCreate t ns) = t ∷ ns
names_in (Always t) = t ∷ []
names_in (Stamp t content) = t ∷ []
names_in (Done t stamp) = t ∷ []
names_in (Failed t) = t ∷ []
names_in Ood = []
names_in Targets = []
names_in Sources = []
