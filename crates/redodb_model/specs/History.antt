-- Histories: commands and replies, line after line.
use Rattle.std.specs.Prelude.{ℕ, List, [], ◌∷◌, filter, ◌==◌}
use Rattle.redodb_model.specs.Names.{Naming}
use Rattle.redodb_model.specs.State.{State, empty}
use Rattle.redodb_model.specs.Command.{Command}
use Rattle.redodb_model.specs.Reply.{Reply}
use Rattle.redodb_model.specs.Step.{Answers, after}

-- sessions are counted from 0
pub record Line (N : Type 0) : Type 0 where
  pub session : ℕ
  pub command : Command N
  pub reply : Reply N

-- the lines of one session, in their order
abbrev pub part_of : {N : Type 0} → ℕ → List (Line N) → List (Line N)
part_of s lines = filter (λ line. line.session == s) lines

module _ {N : Type 0} (naming : Naming N) where
  -- the state that the lines leave
  abbrev pub left_by : State N → List (Line N) → State N
  left_by st [] = st
  left_by st (line ∷ lines) = left_by (after naming st line.session line.command) lines

  -- each line's reply is the database's at its point
  abbrev pub LegalFrom : State N → List (Line N) → Type 0
  LegalFrom st [] = Unit {0}
  LegalFrom st (line ∷ lines) =
      Answers naming st line.session line.command line.reply
      × LegalFrom (after naming st line.session line.command) lines

  -- legal from the empty state
  abbrev pub Legal : List (Line N) → Type 0
  Legal lines = LegalFrom empty lines
