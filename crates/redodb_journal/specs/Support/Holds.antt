-- What a table says of the names that a session holds and builds.
use Rattle.std.specs.Prelude.{ℕ, Bool, cond, List, filter_map, Option, Some, None}
use Rattle.redodb_model.specs.Names.{Naming}
use Rattle.redodb_model.specs.Command.{asked_lock}
use Rattle.redodb_model.specs.Command as commands
use Rattle.redodb_model.specs.Closing as closing
use Rattle.redodb_journal.specs.declared.holds.Hold.{Hold}
use Rattle.redodb_journal.specs.declared.entry.Entry.{Entry}
use Rattle.redodb_journal.specs.Journals.{command_told}
use Rattle.redodb_journal.specs.Holds.{hold_at}

abbrev pub is_held : List Hold → ℕ → Bool
is_held holds t = (hold_at holds t).held

-- the names that the entries' commands lock
abbrev pub locked_in : List (commands.Item ℕ) → List Entry → List ℕ
locked_in script entries = filter_map (λ entry. asked_lock (command_told script entry)) entries

-- the lesser of the name, if there is one and it is held, and of the least so far
abbrev pub lesser_held : Naming ℕ → List Hold → Option ℕ → Option ℕ → Option ℕ
lesser_held naming holds None so_far = so_far
lesser_held naming holds (Some t) so_far =
    cond (is_held holds t) (Some (closing.lesser_of naming t so_far)) so_far
