-- The invariant of the rows of one target.
use Rattle.std.specs.Prelude.{◌≡◌, ◌≢◌, ◌<◌, List, Some, AllPairs}
use Rattle.redodb_model.specs.State.{Mark}
use Rattle.redodb_records.specs.Rows.{Slot}

-- there is a change row with another mark
abbrev pub HasChangeBut : Mark → Slot → Type 0
HasChangeBut mark slot = (kept : Mark) × (slot.change ≡ Some kept) × (kept ≢ mark)

-- the slots are in the order of their names, one for each
abbrev pub Ascending : List Slot → Type 0
Ascending slots = AllPairs (λ x y. x.name < y.name) slots
