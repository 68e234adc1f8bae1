-- Scripts within the numbers of names, and their meaning.
use Rattle.std.specs.Prelude.{List, length, map}
use Rattle.std.specs.List.{AllByRecursion}
use Rattle.redodb_model.specs.Names.{Text}
use Rattle.redodb_model.specs.Command as commands
use Rattle.redodb_commands.specs.declared.script.Item.{Item}
use Rattle.redodb_commands.specs.Support.Meaning.{item_at}
use Rattle.redodb_journal.specs.Plans.{AreBelow}

-- a script's numbers have names
abbrev pub IsScriptBelow : List Text → List Item → Type 0
IsScriptBelow names script = AreBelow (length names) script

abbrev pub AreScriptsBelow : List Text → List (List Item) → Type 0
AreScriptsBelow names scripts = AllByRecursion (IsScriptBelow names) scripts

-- the meaning of the scripts' lines
abbrev pub scripts_at : List Text → List (List Item) → List (List (commands.Item Text))
scripts_at names scripts = map (λ script. map (item_at names) script) scripts
