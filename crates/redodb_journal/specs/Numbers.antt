-- The numbers of entries, and which is the next.
use Rattle.std.specs.Prelude.{ℕ, List, Option, option_map, slice_index_or}
use Rattle.redodb_model.specs.Names.{Text, by_text}
use Rattle.redodb_model.specs.Command.{Item, Ood, commands_in}
use Rattle.redodb_model.specs.Journals.{Numbered, next_of}
use Rattle.redodb_commands.specs.Meaning.{command_of}
use Rattle.redodb_journal.specs.declared.entry.Entry.{Entry}
use Rattle.redodb_journal.specs.declared.next.Next.{Next}
use Rattle.redodb_journal.specs.Journals.{command_by, lines_told}

-- the script's command with this number
abbrev pub numbered_in : List (Item ℕ) → ℕ → Numbered ℕ
numbered_in script number =
    record { number = number; command = slice_index_or (commands_in script) number Ood }

-- what comes next, and its number
abbrev pub numbered_by : List (Item ℕ) → Next → Numbered ℕ
numbered_by script next =
    record {
      number = next.number;
      command = command_by script (option_map command_of next.closing) next.number;
    }

-- what a session with this script and these entries does next
abbrev pub next_after : List Text → ℕ → List (Item ℕ) → List Entry → Option (Numbered ℕ)
next_after names s script entries =
    next_of (by_text names) script (lines_told s script entries)
