-- What the steps of a graph stand for.
use Rattle.std.specs.Prelude.{◌≡◌, ℕ, ◌+◌, ◌<◌, ◌≤◌, ◌==◌, List, [], Some, None, flat_map, length, map, slice_get, slice_index}
use Rattle.std.specs.List.{AllZip, list_any}
use Rattle.sha1.specs.Sha1.{sha1}
use Rattle.redodb_model.specs.Names.{Text}
use Rattle.redodb_model.specs.Command.{Command, Item}
use Rattle.redodb_model.specs.Command as commands
use Rattle.redodb_graph.specs.declared.step.Listed.{Listed}
use Rattle.redodb_graph.specs.declared.step.Step.{Step}
use Rattle.redodb_graph.specs.declared.step.Step.TheVariants.{File, Gone, Lock, Unlock, Start, IfChange, IfCreate, Always, Stamp, Done, Failed, Ood, Targets, Sources}
use Rattle.redodb_graph.specs.Pairs.{PairsOf}

-- what the numbers of the steps stand for: pairs by place, what the lines list, stamps and digests
pub record TablesOf : Type 0 where
  pub pairs : PairsOf
  pub listed : List ℕ
  pub stamps : List Text
  pub digests : List (List ℕ)

-- the list has the places of the pairs of t on these names, in order, and whether t is among them
pub record AreListed (tables : TablesOf) (t : ℕ) (names : List ℕ) (list : Listed) : Type 0 where
  pub count : list.len ≡ length names
  pub within : list.from + list.len ≤ length tables.listed
  pub each : (k : ℕ) → k < length names
      → slice_get tables.pairs.items (slice_index tables.listed (list.from + k))
      ≡ Some (t, slice_index names k)
  pub itself : list.itself ≡ list_any (λ n. n == t) names

-- the step stands for the command
abbrev pub Means : TablesOf → Step → Command ℕ → Type 0
Means tables (File n i) command =
    (s : Text) × (command ≡ commands.File n s) × (slice_get tables.stamps i ≡ Some s)
Means tables (Gone n) command = command ≡ commands.Gone n
Means tables (Lock t) command = command ≡ commands.Lock t
Means tables (Unlock t) command = command ≡ commands.Unlock t
Means tables (Start t) command = command ≡ commands.Start t
Means tables (IfChange t list) command =
    (ns : List ℕ) × (command ≡ commands.IfChange t ns) × AreListed tables t ns list
Means tables (IfCreate t list) command =
    (ns : List ℕ) × (command ≡ commands.IfCreate t ns) × AreListed tables t ns list
Means tables (Always t) command = command ≡ commands.Always t
Means tables (Stamp t i) command =
    (c : Text) × (command ≡ commands.Stamp t c) × (slice_get tables.digests i ≡ Some (sha1 c))
Means tables (Done t None) command = command ≡ commands.Done t None
Means tables (Done t (Some i)) command =
    (s : Text) × (command ≡ commands.Done t (Some s)) × (slice_get tables.stamps i ≡ Some s)
Means tables (Failed t) command = command ≡ commands.Failed t
Means tables Ood command = command ≡ commands.Ood
Means tables Targets command = command ≡ commands.Targets
Means tables Sources command = command ≡ commands.Sources

-- each step stands for the command of its line
abbrev pub AllMean : TablesOf → List (Item ℕ) → List Step → Type 0
AllMean tables script steps = AllZip (λ item step. Means tables step item.command) script steps

-- the pairs that a command lists
abbrev pub listed_in : Command ℕ → List (ℕ × ℕ)
listed_in (commands.IfChange t ns) = map (λ n. (t, n)) ns
listed_in (commands.IfCreate t ns) = map (λ n. (t, n)) ns
listed_in command = []

-- the pairs that the lines of the scripts list
abbrev pub listed_by : List (List (Item ℕ)) → List (ℕ × ℕ)
listed_by scripts = flat_map (λ script. flat_map (λ item. listed_in item.command) script) scripts
