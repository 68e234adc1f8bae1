-- The state before a session ends determines its closing commands and the state after them.
use Rattle.std.specs.Prelude.{◌≡◌, ◌≢◌, ℕ, true, cond, List, [], ◌∷◌, ◌++◌, flat_map, Option, Some, None}
use Rattle.std.specs.declared.cmp.Ordering.TheVariants.{Less}
use Rattle.redodb_model.specs.Names.{Naming, IsListed}
use Rattle.redodb_model.specs.State.{Cell, State, is_building, target_state}
use Rattle.redodb_model.specs.State as states
use Rattle.redodb_model.specs.Command.{Command, Unlock, Failed}
use Rattle.redodb_model.specs.Reply.{Okay}
use Rattle.redodb_model.specs.Step.{is_built_by, is_held_by}
use Rattle.redodb_model.specs.History.{Line}
use Rattle.redodb_model.specs.Closing.{holds}

-- these are the targets that the session holds, in order
abbrev pub AreHeld : {N : Type 0} → Naming N → ℕ → State N → List N → Type 0
AreHeld naming s st ts = IsListed naming (λ t. st.locks.holder t ≡ Some s) ts

-- by its own lines the session holds the target, and no lesser one
abbrev pub IsLeastHeld : {N : Type 0} → Naming N → List (Line N) → N → Type 0
IsLeastHeld {N} naming own t =
    (holds naming own t ≡ true)
    × ((u : N) → holds naming own u ≡ true → naming.order u t ≢ Less)

abbrev pub okay_line : {N : Type 0} → ℕ → Command N → Line N
okay_line s command = record { session = s; command = command; reply = Okay }

-- a cell without the session: its build failed
abbrev pub cell_without : ℕ → Cell → Cell
cell_without s c = cond (is_built_by s c.state) (record c { state = states.Failed }) c

-- a lock's holder without the session: the lock is free
abbrev pub holder_without : ℕ → Option ℕ → Option ℕ
holder_without s holder = cond (is_held_by s holder) None holder

module _ {N : Type 0} (s : ℕ) (st : State N) where
  -- the closing lines of a target that the session holds
  abbrev pub letting_lines : N → List (Line N)
  letting_lines t =
      cond (is_building (target_state st.records t)) (okay_line s (Failed t) ∷ []) []
      ++ okay_line s (Unlock t) ∷ []

  -- the closing lines of these targets, one after the other
  abbrev pub closing_lines_of : List N → List (Line N)
  closing_lines_of ts = flat_map letting_lines ts

  -- the state after the session closed all that it held, and nothing else changed
  abbrev pub state_without : State N
  state_without = record {
    records = record st.records { cell = λ t. cell_without s (st.records.cell t) };
    locks = record st.locks { holder = λ t. holder_without s (st.locks.holder t) };
  }
