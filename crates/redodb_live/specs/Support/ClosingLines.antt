-- The closing lines of a session, over numbers.
use Rattle.std.specs.Prelude.{◌≡◌, ℕ, Bool, cond, List, [], ◌∷◌, ◌++◌, ⊤}
use Rattle.redodb_model.specs.Command.{Command, Unlock, Failed}
use Rattle.redodb_model.specs.History.{Line}
use Rattle.redodb_model.specs.Renaming.{AllBelow}
use Rattle.redodb_model.specs.Names.{by_text}
use Rattle.redodb_database.specs.Tables.{state_of, tables_count}
use Rattle.redodb_model.specs.Support.Ending.{AreHeld, okay_line, closing_lines_of}
use Rattle.redodb_live.specs.Support.LiveState.{LiveState}

-- its change needs no reserved memory, whatever is known
abbrev pub TakesNoRoom : Command ℕ → Type 0
TakesNoRoom (Unlock t) = ⊤
TakesNoRoom (Failed t) = ⊤
TakesNoRoom command = ⊥

-- the closing lines of a target, which is building or not
abbrev pub letting : ℕ → Bool → ℕ → List (Line ℕ)
letting s building t =
    cond building (okay_line s (Failed t) ∷ []) [] ++ okay_line s (Unlock t) ∷ []

-- the lines close all that the session holds, in the order of the texts
pub record AreClosing (live : LiveState) (session : ℕ) (lines : List (Line ℕ)) : Type 0 where
  pub targets : List ℕ
  pub held : AreHeld (by_text live.names) session (state_of live.tables) targets
  pub below : AllBelow (tables_count live.tables) targets
  pub lines_are : lines ≡ closing_lines_of session (state_of live.tables) targets
