-- The words of the slots of a target.
use Rattle.std.specs.Prelude.{Bool, ◌||◌, List, is_some}
use Rattle.redodb_model.specs.Names.{Text, text_at}
use Rattle.redodb_model.specs.State.{State, mark_of}
use Rattle.redodb_records.specs.Rows.{Slot}
use Rattle.redodb_dump.specs.Dumps.{row_words}

-- the slot has a row
abbrev pub has_rows : Slot → Bool
has_rows slot = slot.created || is_some slot.change

-- the rows of a slot: one word, or none if there are no rows
abbrev pub slot_words : List Text → State Text → Slot → List Text
slot_words names st slot =
    row_words slot.name (mark_of st.records (text_at names slot.name)) slot.change slot.created
