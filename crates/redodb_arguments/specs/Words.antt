-- The arguments of the program.
use Rattle.std.specs.Prelude.{◌≡◌, List, [], map, Option, Some, None, true, codes, string_bytes, String}
use Rattle.std.specs.declared.alloc.Global.{Global}
use Rattle.clap.specs.Words.{App, Row, Rule, Text, all_of, fault_of, first_of, new_app, new_rule, subcommand_of, with_rule, with_subcommand}
use Rattle.clap.specs.Lexer.{usize_max}
use Rattle.clap.specs.declared.builder.action.ArgAction.TheVariants.{Set, Append}
use Rattle.redodb_arguments.specs.declared.task.Job.{Job}
use Rattle.redodb_arguments.specs.declared.task.Job.TheVariants.{Input, Run, Replay}

-- FILE...
abbrev pub files_rule : Rule
files_rule = record (new_rule (codes "FILE")) {
  required = true;
  range = Some (record { start_inclusive = 1; end_inclusive = usize_max });
  action = Some Append;
}

-- FILE
abbrev pub file_rule : Rule
file_rule = record (new_rule (codes "FILE")) { required = true; action = Some Set }

-- `run FILE...`
abbrev pub run_app : App
run_app = with_rule (new_app (codes "run")) files_rule

-- `replay FILE`
abbrev pub replay_app : App
replay_app = with_rule (new_app (codes "replay")) file_rule

abbrev pub empty_app : App
empty_app = record (new_app (codes "redodb")) {
  top = record (new_app (codes "redodb")).top { no_binary_name = true; subcommand_required = true };
}

-- one of the two, and no word for the program itself
abbrev pub redodb : App
redodb = with_subcommand (with_subcommand empty_app run_app.top) replay_app.top

-- the words name the job, and give its files; clap finds `asked` in them
abbrev pub Asks : Option (Text × List Row) → Job → Type 0
Asks None job = ⊥
Asks (Some (name, rows)) Input = ⊥
Asks (Some (name, rows)) (Run files) =
    (name ≡ codes "run") × (all_of (codes "FILE") rows ≡ Some (map string_bytes files.items))
Asks (Some (name, rows)) (Replay file) =
    (name ≡ codes "replay") × (first_of (codes "FILE") rows ≡ Some (string_bytes file))

-- the words after the program's name mean the job
abbrev pub AskFor : List (String Global) → Job → Type 0
AskFor words job = Asks (subcommand_of redodb (map string_bytes words)) job

-- clap finds no fault in them
abbrev pub AreFaultless : List (String Global) → Type 0
AreFaultless words = fault_of redodb (map string_bytes words) ≡ []
