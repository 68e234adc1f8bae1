-- The arguments of the program for conversations, and for backups of their logs.
use Rattle.std.specs.Prelude.{◌≡◌, ◌↔◌, List, [], map, Option, Some, None, true, codes, string_bytes, String}
use Rattle.std.specs.declared.alloc.Global.{Global}
use Rattle.clap.specs.Words.{App, Row, Rule, Text, fault_of, first_of, matches_of, new_app, new_rule, with_rule}
use Rattle.clap.specs.declared.builder.action.ArgAction.TheVariants.{Set, SetTrue}
use Rattle.redodb_arguments.specs.declared.task.Backup.{Backup}
use Rattle.redodb_arguments.specs.declared.task.LiveJob.{LiveJob}
use Rattle.redodb_arguments.specs.declared.task.LiveJob.TheVariants.{Talk, BackUp}
use Rattle.redodb_arguments.specs.declared.task.LogFile.{LogFile}

-- `--NAME FILE`
abbrev pub value_rule : Text → Rule
value_rule name = record (new_rule name) { long = Some name; action = Some Set }

-- `--NAME`
abbrev pub flag_rule : Text → Rule
flag_rule name = record (new_rule name) { long = Some name; action = Some SetTrue }

-- no word for the program itself
abbrev pub nameless : App
nameless = record (new_app (codes "redodb-live")) {
  top = record (new_app (codes "redodb-live")).top { no_binary_name = true };
}

-- a log, `--sync` and `--salvage`
abbrev pub log_app : App
log_app = with_rule (with_rule (with_rule nameless (value_rule (codes "log"))) (flag_rule (codes "sync")))
    (flag_rule (codes "salvage"))

-- `--compact`, `--whole` and `--backup FILE`, too
abbrev pub redodb_live : App
redodb_live = with_rule (with_rule (with_rule log_app (flag_rule (codes "compact")))
    (flag_rule (codes "whole"))) (value_rule (codes "backup"))

-- the flag was given
abbrev pub IsGiven : Text → List Row → Type 0
IsGiven flag rows = first_of flag rows ≡ Some (codes "true")

-- the log and the flags that clap finds in the words: `--compact` and `--whole` exclude each other
pub record AsksForFile (rows : List Row) (log : LogFile) : Type 0 where
  pub name : first_of (codes "log") rows ≡ Some (string_bytes log.name)
  pub sync : (log.sync ≡ true) ↔ IsGiven (codes "sync") rows
  pub salvage : (log.salvage ≡ true) ↔ IsGiven (codes "salvage") rows
  pub compact : (log.compact ≡ true) ↔ IsGiven (codes "compact") rows
  pub whole : (log.whole ≡ true) ↔ IsGiven (codes "whole") rows
  pub one : ¬ (IsGiven (codes "compact") rows × IsGiven (codes "whole") rows)

-- no flag is among the words
pub record HasNoFlag (rows : List Row) : Type 0 where
  pub sync : ¬ (IsGiven (codes "sync") rows)
  pub salvage : ¬ (IsGiven (codes "salvage") rows)
  pub compact : ¬ (IsGiven (codes "compact") rows)
  pub whole : ¬ (IsGiven (codes "whole") rows)

-- the words ask for a conversation that goes on from this log, or for one without a log
abbrev pub AsksForTalk : List Row → Option LogFile → Type 0
AsksForTalk rows None = (first_of (codes "log") rows ≡ None) × HasNoFlag rows
AsksForTalk rows (Some log) = AsksForFile rows log

-- the words ask for a backup of a log: no flag goes with it
pub record AsksForBackup (rows : List Row) (backup : Backup) : Type 0 where
  pub log : first_of (codes "log") rows ≡ Some (string_bytes backup.log)
  pub copy : first_of (codes "backup") rows ≡ Some (string_bytes backup.copy)
  pub alone : HasNoFlag rows

-- what clap finds in the words
abbrev pub Asks : List Row → LiveJob → Type 0
Asks rows (Talk log) = (first_of (codes "backup") rows ≡ None) × AsksForTalk rows log
Asks rows (BackUp backup) = AsksForBackup rows backup

-- the words after the program's name mean the job
abbrev pub AskFor : List (String Global) → LiveJob → Type 0
AskFor words = Asks (matches_of redodb_live (map string_bytes words))

-- clap finds no fault in them
abbrev pub AreFaultless : List (String Global) → Type 0
AreFaultless words = fault_of redodb_live (map string_bytes words) ≡ []
