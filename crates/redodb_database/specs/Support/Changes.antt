-- How an accepted command changes the records.
use Rattle.std.specs.Prelude.{◌≡◌, ℕ, List, Option}
use Rattle.redodb_model.specs.Command.{Command}
use Rattle.redodb_model.specs.Names.{Text, by_number}
use Rattle.redodb_model.specs.State.{Cell, Records}
use Rattle.redodb_model.specs.Step.{effect_of, with_cell}
use Rattle.redodb_records.specs.Rows.{TargetRows, with_rows}
use Rattle.redodb_database.specs.Tables.{Tables, tables_records}

-- the new records are the effect of the session's command on the old ones
abbrev pub HasEffect : Tables → Tables → ℕ → Command ℕ → Type 0
HasEffect old new s command =
    tables_records new ≡ effect_of by_number (tables_records old) s command

-- the same whichever session gives the command
abbrev pub HasEffectOfAny : Tables → Tables → Command ℕ → Type 0
HasEffectOfAny old new command = (s : ℕ) → HasEffect old new s command

-- over these cells, the new rows are the effect of the command on the old ones, whichever session
-- gives it
pub record AreRowsAfter (cells : List Cell) (old new : List TargetRows)
    (command : Command ℕ) : Type 0 where
  pub effect : (s : ℕ) → with_rows cells new ≡ effect_of by_number (with_rows cells old) s command

-- the records, with this file of the name, or with none
abbrev pub records_with_file : Tables → ℕ → Option Text → Records ℕ
records_with_file old n file =
    let r = tables_records old in with_cell by_number r n (record (r.cell n) { file = file })
