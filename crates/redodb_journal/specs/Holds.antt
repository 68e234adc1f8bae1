-- What a table says of the names that a session holds and builds.
use Rattle.std.specs.Prelude.{◌≡◌, ℕ, ◌<◌, false, List, map, length, All, slice_index_or}
use Rattle.redodb_model.specs.Names.{Text, by_text}
use Rattle.redodb_model.specs.Command.{Command}
use Rattle.redodb_model.specs.Command as commands
use Rattle.redodb_model.specs.Reply.{Reply}
use Rattle.redodb_model.specs.History.{Line}
use Rattle.redodb_model.specs.Placed.{line_of}
use Rattle.redodb_model.specs.Renaming.{IsBelow}
use Rattle.redodb_model.specs.Closing as closing
use Rattle.redodb_journal.specs.declared.holds.Hold.{Hold}
use Rattle.redodb_journal.specs.declared.entry.Entry.{Entry}
use Rattle.redodb_journal.specs.Journals.{command_told, lines_told}

abbrev pub no_hold : Hold
no_hold = record { held = false; building = false }

abbrev pub hold_at : List Hold → ℕ → Hold
hold_at holds t = slice_index_or holds t no_hold

-- it says what a session with these lines holds and builds
pub record Says (names : List Text) (holds : List Hold) (lines : List (Line ℕ)) : Type 0 where
  pub one_each : length holds ≡ length names
  pub held : (t : ℕ) → t < length names
      → (hold_at holds t).held ≡ closing.holds (by_text names) lines t
  pub building : (t : ℕ) → t < length names
      → (hold_at holds t).building ≡ closing.builds (by_text names) lines t

-- what a command and its reply change
pub record Notes (names : List Text) (old : List Hold) (x : Command ℕ) (reply : Reply ℕ)
    (new : List Hold) : Type 0 where
  pub one_each : length new ≡ length old
  pub held : (t : ℕ) → t < length old
      → (hold_at new t).held ≡ closing.holds_then (by_text names) x reply t (hold_at old t).held
  pub building : (t : ℕ) → t < length old
      → (hold_at new t).building
      ≡ closing.builds_then (by_text names) x reply t (hold_at old t).building

-- the lines of a session with this script and these entries, without their places
abbrev pub own_lines : ℕ → List (commands.Item ℕ) → List Entry → List (Line ℕ)
own_lines s script entries = map line_of (lines_told s script entries)

-- their commands are over this many names
abbrev pub AreToldBelow : ℕ → List (commands.Item ℕ) → List Entry → Type 0
AreToldBelow n script entries = All (λ entry. IsBelow n (command_told script entry)) entries
