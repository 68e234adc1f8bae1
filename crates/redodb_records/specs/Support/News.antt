-- What the rows of a target say of the names that they are on.
use Rattle.std.specs.Prelude.{◌≡◌, ◌⊎◌, ℕ, List, IsTrue}
use Rattle.redodb_model.specs.State.{Cell, Records, mark_of, no_rows}
use Rattle.redodb_model.specs.OutOfDate.{HasFile}
use Rattle.redodb_records.specs.Cells.{cell_at}
use Rattle.redodb_records.specs.Rows.{Slot, slot_at}
use Rattle.redodb_records.specs.Target.{HasChangeBut}
use Rattle.redodb_records.specs.declared.news.News.{News}
use Rattle.redodb_records.specs.declared.news.News.TheVariants.{Appeared, Changed}

-- what is known of each name, without rows
abbrev pub known : List Cell → Records ℕ
known cells = record { cell = cell_at cells; rows = no_rows }

-- there is a created row here, and the name has a file now
abbrev pub HasAppeared : Records ℕ → Slot → ℕ → Type 0
HasAppeared r slot n = IsTrue slot.created × HasFile r n

-- there is a change row here with another mark than the name has now
abbrev pub HasChanged : Records ℕ → Slot → ℕ → Type 0
HasChanged r slot n = HasChangeBut (mark_of r n) slot

abbrev pub HasNews : Records ℕ → Slot → ℕ → Type 0
HasNews r slot n = HasAppeared r slot n ⊎ HasChanged r slot n

-- some name has appeared or changed
abbrev pub SomeNews : Records ℕ → List Slot → Type 0
SomeNews r slots = (n : ℕ) × HasNews r (slot_at slots n) n

-- the news are of this slot's name
abbrev pub IsNewsOf : Records ℕ → Slot → News → Type 0
IsNewsOf r slot (Appeared n) = (n ≡ slot.name) × HasAppeared r slot slot.name
IsNewsOf r slot (Changed n) = (n ≡ slot.name) × HasChanged r slot slot.name

-- the news are of a name with a slot
abbrev pub IsNewsIn : Records ℕ → List Slot → News → Type 0
IsNewsIn r slots (Appeared n) = HasAppeared r (slot_at slots n) n
IsNewsIn r slots (Changed n) = HasChanged r (slot_at slots n) n
