-- The forms of what is known of names.
use Rattle.std.specs.Prelude.{◌≡◌, ℕ, ◌<◌, ◌^◌, List, Option, Some, IfSome, length}
use Rattle.redodb_model.specs.Names.{Text, text_at}
use Rattle.redodb_model.specs.State.{Cell, State, TargetState, Building}
use Rattle.redodb_dump.specs.Dumps.{HasCellForm, HasMarkForm}

-- a session that a conversation can have, or none
abbrev pub IsHolder : Option ℕ → Type 0
IsHolder holder = IfSome holder (λ s. s < 65535)

-- the builder is the holder
abbrev pub IsHeldBuilt : TargetState → Option ℕ → Type 0
IsHeldBuilt state holder = (s : ℕ) → state ≡ Building s → holder ≡ Some s

-- what a cell has to be so that its words say it
pub record IsToldCell (cell : Cell) (count : ℕ) (owner : Option ℕ) : Type 0 where
  pub form : HasCellForm cell
  pub grants : count < 2 ^ 32
  pub holder : IsHolder owner
  pub builder : IsHeldBuilt cell.state owner

-- what is required of what is known of a name but its rows
pub record HasNameForm (st : State Text) (name : Text) : Type 0 where
  pub cell : HasCellForm (st.records.cell name)
  pub grants : st.locks.grants name < 2 ^ 32

-- what is required of the rows of t on these names
abbrev pub HasRowForms : List Text → State Text → Text → Type 0
HasRowForms names st t =
    (n : ℕ) → n < length names → IfSome (st.records.rows.change t (text_at names n)) HasMarkForm

-- the first `count` names, and the rows of the first `count` names, have their forms
abbrev pub HaveNameForms : List Text → State Text → ℕ → Type 0
HaveNameForms names st count = (n : ℕ) → n < count → HasNameForm st (text_at names n)

abbrev pub HaveRowForms : List Text → State Text → ℕ → Type 0
HaveRowForms names st count = (t : ℕ) → t < count → HasRowForms names st (text_at names t)
