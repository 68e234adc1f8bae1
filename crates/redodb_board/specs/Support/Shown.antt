-- The command that a worker does next.
use Rattle.std.specs.Prelude.{◌≡◌, ◌↔◌, ℕ, ◌≤◌, length, Option, Some, IsSome, option_map}
use Rattle.redodb_model.specs.Command.{Command}
use Rattle.redodb_journal.specs.Plans.{PlanOf, script_of}
use Rattle.redodb_commands.specs.declared.command.Command as terms
use Rattle.redodb_commands.specs.Meaning.{command_of}
use Rattle.redodb_journal.specs.Journals.{command_by}
use Rattle.redodb_board.specs.declared.worker.Worker.{Worker}
use Rattle.redodb_board.specs.Shown.{next_by}

-- the command with this number is next: that of a line of the script, or a closing one
pub record IsNextBy (p : PlanOf) (w : Worker) (number : ℕ) (closing : Option terms.Command)
    (x : Command ℕ) : Type 0 where
  pub next : next_by p w ≡ Some (record { number = number; command = x })
  pub told : command_by (script_of p w.session) (option_map command_of closing) number ≡ x
  pub marked : IsSome closing ↔ (length (script_of p w.session) ≤ number)
