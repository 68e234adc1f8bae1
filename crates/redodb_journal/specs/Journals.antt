-- The meaning of the sessions' journals.
use Rattle.std.specs.Prelude.{◌≡◌, ℕ, ◌≤◌, ◌↔◌, List, [], length, map, Option, option_map, All, IsSome, slice_get, slice_index_or}
use Rattle.std.specs.Option.{unwrap_or}
use Rattle.redodb_model.specs.Names.{Naming, by_text}
use Rattle.redodb_model.specs.Command as commands
use Rattle.redodb_model.specs.Command.{Item, Ood, commands_in}
use Rattle.redodb_model.specs.Placed.{PlacedLine}
use Rattle.redodb_model.specs.Placed as placed
use Rattle.redodb_model.specs.Journals.{IsJournal}
use Rattle.redodb_commands.specs.Meaning.{reply_of}
use Rattle.redodb_journal.specs.declared.entry.Place.{Place}
use Rattle.redodb_journal.specs.declared.entry.Place.TheVariants.{Row, Granted, Busy, Released}
use Rattle.redodb_journal.specs.declared.entry.Closing.{Closing}
use Rattle.redodb_journal.specs.declared.entry.Closing.TheVariants as closings
use Rattle.redodb_journal.specs.declared.entry.Entry.{Entry}
use Rattle.redodb_journal.specs.declared.entry.Journal.{Journal}
use Rattle.redodb_journal.specs.Plans.{PlanOf, script_of}

abbrev pub place_of : Place → placed.Place ℕ
place_of (Row r) = placed.Row r
place_of (Granted t g) = placed.Granted t g
place_of (Busy t g) = placed.Busy t g
place_of (Released t g) = placed.Released t g

abbrev pub closing_command : Closing → commands.Command ℕ
closing_command (closings.Failed t) = commands.Failed t
closing_command (closings.Unlock t) = commands.Unlock t

-- the closing command if there is one, else the script's at the number
abbrev pub command_by : List (Item ℕ) → Option (commands.Command ℕ) → ℕ → commands.Command ℕ
command_by script closing number =
    unwrap_or closing (slice_index_or (commands_in script) number Ood)

-- the command that was done
abbrev pub command_told : List (Item ℕ) → Entry → commands.Command ℕ
command_told script entry =
    command_by script (option_map closing_command entry.closing) entry.number

-- the line of an entry of a session with this script
abbrev pub line_told : ℕ → List (Item ℕ) → Entry → PlacedLine ℕ
line_told s script entry = record {
  session = s;
  number = entry.number;
  command = command_told script entry;
  reply = reply_of entry.reply;
  place = place_of entry.place;
}

abbrev pub lines_told : ℕ → List (Item ℕ) → List Entry → List (PlacedLine ℕ)
lines_told s script entries = map (line_told s script) entries

-- the lines of a journal
abbrev pub told_by : List (Item ℕ) → Journal → List (PlacedLine ℕ)
told_by script journal = lines_told journal.session script journal.entries.items

-- the lines of the s-th journal; none if there is no such journal
abbrev pub journals_of : PlanOf → List Journal → ℕ → List (PlacedLine ℕ)
journals_of plan journals s =
    unwrap_or (option_map (told_by (script_of plan s)) (slice_get journals s)) []

-- the entries of the s-th journal
abbrev pub entries_of : List Journal → ℕ → List Entry
entries_of journals s =
    unwrap_or (option_map (λ journal. journal.entries.items) (slice_get journals s)) []

-- the plan's numbers are ordered as the names that they stand for
abbrev pub naming_of : PlanOf → Naming ℕ
naming_of plan = by_text plan.names

-- the command is a closing one exactly if no line of the script has its number
abbrev pub IsMarked : List (Item ℕ) → Entry → Type 0
IsMarked script entry = IsSome entry.closing ↔ (length script ≤ entry.number)

-- one journal for each script: what that session did so far
pub record AreJournals (plan : PlanOf) (journals : List Journal) : Type 0 where
  pub one_each : length journals ≡ length plan.scripts
  pub each : (s : ℕ)
      → IsJournal (naming_of plan) s (script_of plan s) (journals_of plan journals s)
  pub marked : (s : ℕ) → All (IsMarked (script_of plan s)) (entries_of journals s)
