-- The scripts of a run.
use Rattle.std.specs.Prelude.{ℕ, ◌≤◌, List, [], length, map, slice_index_or}
use Rattle.std.specs.List.{AllByRecursion}
use Rattle.redodb_names.specs.Support.Names.{AreNames}
use Rattle.redodb_model.specs.Names.{Text, text_at}
use Rattle.redodb_model.specs.Command as commands
use Rattle.redodb_model.specs.Renaming.{IsBelow, named_item}
use Rattle.redodb_commands.specs.declared.script.Item.{Item}
use Rattle.redodb_commands.specs.Meaning.{command_of}
use Rattle.redodb_commands.specs.Support.Meaning.{item_of}

-- names, and for each session the lines of its script, over the numbers of the names
pub record PlanOf : Type 0 where
  pub names : List Text
  pub scripts : List (List (commands.Item ℕ))

abbrev pub scripts_of : List (List Item) → List (List (commands.Item ℕ))
scripts_of scripts = map (λ script. map item_of script) scripts

-- the script of a session; it has no line if there is no such session
abbrev pub script_of : PlanOf → ℕ → List (commands.Item ℕ)
script_of plan s = slice_index_or plan.scripts s []

-- the scripts of a plan, over its names
abbrev pub scripts_named : PlanOf → List (List (commands.Item Text))
scripts_named plan = map (λ script. map (named_item (text_at plan.names)) script) plan.scripts

-- the numbers of its commands are below n
abbrev pub AreBelow : ℕ → List Item → Type 0
AreBelow n script = AllByRecursion (λ item. IsBelow n (command_of item.command)) script

-- 1 to 64 scripts, each of at most 4,096 lines, over the numbers of the names, of which there are
-- at most 65,536
pub record IsPlan (plan : PlanOf) : Type 0 where
  pub some : 1 ≤ length plan.scripts
  pub few : length plan.scripts ≤ 64
  pub short : (s : ℕ) → length (script_of plan s) ≤ 4096
  pub below : (s : ℕ)
      → AllByRecursion (λ item. IsBelow (length plan.names) item.command) (script_of plan s)
  pub names : AreNames plan.names
  pub few_names : length plan.names ≤ 65536
