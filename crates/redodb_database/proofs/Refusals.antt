-- The verdict on a command as the database computes it.
use Rattle.std.proofs.Common.{◌≡◌, ℕ, Bool, Option, Some, None, sym, ap, ◌∙◌, arith}
use Rattle.std.specs.Option.{option_or}
use Rattle.redodb_commands.specs.declared.command.Command.{Command}
use Rattle.redodb_commands.specs.Meaning.{command_of}
use Rattle.redodb_commands.specs.Support.Meaning.{kind_of}
use Rattle.redodb_model.specs.Command as commands
use Rattle.redodb_model.specs.Command.{target_of}
use Rattle.redodb_model.specs.Names.{Naming}
use Rattle.redodb_model.specs.Reply as replies
use Rattle.redodb_model.specs.State.{Records, target_state}
use Rattle.redodb_model.specs.Step.{verdict_of}
use Rattle.redodb_records.specs.Refusals.{refusal_by_target, refusal_of_names, kind_for}
use Rattle.redodb_records.proofs.Refusals.{verdict_on_target}

module _ (naming : Naming ℕ) (r : Records ℕ) (s : ℕ) (holds : Bool) where
  -- a command without a target is not refused
  pub free_without_target : (command : commands.Command ℕ) → None ≡ target_of command
      → None ≡ verdict_of naming r s holds command
  free_without_target command none = grind arith

  -- the refusal by the target's cell, else that of the names, is the verdict
  pub refusal_by_parts : (command : Command) (t : ℕ) (own names : Option (replies.Refusal ℕ))
      → Some t ≡ target_of (command_of command)
      → own ≡ refusal_by_target (target_state r t) s holds (kind_of command)
      → names ≡ refusal_of_names naming r (command_of command)
      → option_or own names ≡ verdict_of naming r s holds (command_of command)
  refusal_by_parts command t own names on by_cell by_names =
      ap (λ (o : Option (replies.Refusal ℕ)). option_or o names)
      by_cell
      ∙ ap (option_or
      (refusal_by_target (target_state r t) s holds (kind_for (command_of command)))) by_names
      ∙ verdict_on_target naming r s holds (command_of command) t (sym on)
