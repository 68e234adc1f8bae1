-- How a session ends.
use Rattle.std.specs.Prelude.{◌≡◌, ℕ, ◌+◌, List, [], ◌∷◌, ◌++◌, codes, decimal}
use Rattle.redodb_model.specs.Names.{Text, texts}
use Rattle.redodb_model.specs.State.{State}
use Rattle.redodb_model.specs.History.{Line, left_by}
use Rattle.redodb_model.specs.Support.Ending.{AreHeld, closing_lines_of, state_without}
use Rattle.redodb_history.specs.Histories.{ended}

-- these lines close all that the session holds, in the order of the texts, and the new state is the
-- one after them
pub record IsEnded (old new : State Text) (session : ℕ) (lines : List (Line Text)) : Type 0 where
  pub targets : List Text
  pub held : AreHeld texts session old targets
  pub lines_are : lines ≡ closing_lines_of session old targets
  pub left : new ≡ left_by texts old lines

-- the end of the answer
abbrev pub end_text : ℕ → Text
end_text session = ended (decimal (session + 1) ++ codes " end => ok")

-- the state when each of these sessions has ended
abbrev pub without_each : List ℕ → State Text → State Text
without_each [] st = st
without_each (s ∷ sessions) st = without_each sessions (state_without s st)
