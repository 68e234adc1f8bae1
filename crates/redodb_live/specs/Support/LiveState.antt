-- The value of a conversation's database.
use Rattle.std.specs.Prelude.{◌≡◌, ℕ, ◌+◌, ◌*◌, ◌^◌, ◌<◌, List, length}
use Rattle.redodb_model.specs.Names.{Text, text_at}
use Rattle.redodb_model.specs.State.{State}
use Rattle.redodb_model.specs.Support.Renaming.{named_state, numbering}
use Rattle.redodb_database.specs.Tables.{Tables, state_of, tables_count, calls_of}

-- the names of the commands so far, and a database over their numbers
pub record LiveState : Type 0 where
  pub names : List Text
  pub tables : Tables

-- what is known of names
abbrev pub state_in : LiveState → State Text
state_in live = named_state (numbering live.names) (state_of live.tables)

-- how many commands were answered
abbrev pub calls_in : LiveState → ℕ
calls_in live = calls_of live.tables

-- one more command can be counted, and then two for each name: closing takes no more
abbrev pub HasCallsLeft : LiveState → Type 0
HasCallsLeft live = calls_in live + 1 + 2 * length live.names < 2 ^ 32

-- the name has this number, which the database knows
pub record IsNumberOf (live : LiveState) (name : Text) (n : ℕ) : Type 0 where
  pub named : text_at live.names n ≡ name
  pub among_names : n < length live.names
  pub among_numbers : n < tables_count live.tables

-- the same is known, and as many commands were answered
pub record IsAsKnown (old new : LiveState) : Type 0 where
  pub state : state_in new ≡ state_in old
  pub names : new.names ≡ old.names
  pub calls : calls_in new ≡ calls_in old

-- the same for the numbers
pub record IsSameDatabase (old new : LiveState) : Type 0 where
  pub state : state_of new.tables ≡ state_of old.tables
  pub calls : calls_in new ≡ calls_in old
