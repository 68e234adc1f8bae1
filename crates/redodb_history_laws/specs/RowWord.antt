-- The word of a board's row: what it says, and the number that says it.
use Rattle.std.specs.Prelude.{ℕ, ◌+◌, ◌-◌, ◌*◌, ◌/◌, ◌%◌, ◌<◌, ◌==◌, Bool, false, cond, nat_lt, List, length, slice_index_or}
use Rattle.std.specs.Option.{unwrap_or}
use Rattle.redodb_model.specs.Names.{Naming}
use Rattle.redodb_model.specs.State.{Records}
use Rattle.redodb_model.specs.Command.{Command, Item, Failed, Ood, commands_in, target_of}
use Rattle.redodb_model.specs.Step.{records_after}
use Rattle.redodb_history_laws.specs.declared.row_word.RowWord.{RowWord}
use Rattle.redodb_history_laws.specs.declared.row_word.RowWord.TheVariants.{Line, Closing}

abbrev pub encoded : RowWord → ℕ
encoded (Line session number holds) = 1 + 2 * (4096 * session + number) + cond holds 1 0
encoded (Closing session target) = 4294967296 + 65536 * session + target

abbrev pub line_in : ℕ → RowWord
line_in rest = Line (rest / 8192) (rest / 2 % 4096) (rest % 2 == 1)

abbrev pub closing_in : ℕ → RowWord
closing_in rest = Closing (rest / 65536) (rest % 65536)

unfoldable pub decoded : ℕ → RowWord
decoded word =
    cond (nat_lt word 4294967296) (line_in (word - 1)) (closing_in (word - 4294967296))

-- of these, decoding undoes encoding
abbrev pub Fits : RowWord → Type 0
Fits (Line session number holds) = (session < 64) × (number < 4096)
Fits (Closing session target) = target < 65536

abbrev pub session_of : RowWord → ℕ
session_of (Line session number holds) = session
session_of (Closing session target) = session

-- what a closing `failed` leaves doesn't depend on it
abbrev pub holds_in : RowWord → Bool
holds_in (Line session number holds) = holds
holds_in (Closing session target) = false

module _ (plan : ℕ → List (Item ℕ)) where
  abbrev pub command_of : RowWord → Command ℕ
  command_of (Line session number holds) =
      slice_index_or (commands_in (plan session)) number Ood
  command_of (Closing session target) = Failed target

  -- of a session's command with this number, whose target it holds or not
  abbrev pub row_for : ℕ → ℕ → Command ℕ → Bool → RowWord
  row_for session number command holds =
      cond (nat_lt number (length (plan session))) (Line session number holds)
      (Closing session (unwrap_or (target_of command) 0))

  abbrev pub word_for : ℕ → ℕ → Command ℕ → Bool → ℕ
  word_for session number command holds = encoded (row_for session number command holds)

-- the records after the command of a row
abbrev pub after_row : Naming ℕ → (ℕ → List (Item ℕ)) → Records ℕ → RowWord → Records ℕ
after_row naming plan records row =
    records_after naming records (session_of row) (holds_in row) (command_of plan row)
