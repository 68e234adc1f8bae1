-- A row word that names a command.
use Rattle.std.specs.Prelude.{◌≡◌, ℕ, ◌<◌, length, None}
use Rattle.redodb_model.specs.Command.{asked_lock}
use Rattle.redodb_model.specs.Renaming.{IsBelow}
use Rattle.redodb_history_laws.specs.declared.row_word.RowWord.{RowWord}
use Rattle.redodb_history_laws.specs.declared.row_word.RowWord.TheVariants.{Line, Closing}
use Rattle.redodb_history_laws.specs.RowWord.{decoded, session_of, command_of}
use Rattle.redodb_journal.specs.Plans.{PlanOf, script_of}

-- a line is one of its session's script
abbrev pub IsWithin : PlanOf → RowWord → Type 0
IsWithin p (Line session number holds) = number < length (script_of p session)
IsWithin p (Closing session target) = Unit {0}

-- the row is of a session of the plan and of its command, which is no lock
pub record IsRow (p : PlanOf) (row : RowWord) : Type 0 where
  pub session : session_of row < length p.scripts
  pub within : IsWithin p row
  pub no_lock : asked_lock (command_of (script_of p) row) ≡ None
  pub below : IsBelow (length p.names) (command_of (script_of p) row)

pub record IsWord (p : PlanOf) (w : ℕ) : Type 0 where
  pub some : 0 < w
  pub row : IsRow p (decoded w)
