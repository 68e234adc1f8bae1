-- The value of the database's fields, and their invariant.
use Rattle.std.specs.Prelude.{◌≡◌, ℕ, ◌+◌, ◌*◌, ◌^◌, ◌≤◌, ◌<◌, List, IsSome, Contains, length, nat_eq}
use Rattle.std.specs.List.{IsDistinct}
use Rattle.redodb_model.specs.Names.{Text}
use Rattle.redodb_model.specs.State.{State, Locks}
use Rattle.redodb_model.specs.Support.Renaming.{named_state, numbering}
use Rattle.redodb_model.proofs.Held.{BuildersHold}
use Rattle.redodb_database.specs.Tables.{state_of, tables_count, calls_of}
use Rattle.redodb_live.specs.Support.LiveState.{LiveState}
use Rattle.redodb_live.specs.Support.Within.{IsStateWithin}
use Rattle.redodb_live.specs.declared.live.Live.TheInside.{Inside}

abbrev pub live_of : Inside → LiveState
live_of inside = record { names = inside.names; tables = inside.redo }

-- somebody holds each of these
abbrev pub AreTaken : Locks ℕ → List ℕ → Type 0
AreTaken locks ts = (t : ℕ) → Contains ts t → IsSome (locks.holder t)

-- after this many calls this is the state over these names: nothing is known of other numbers,
-- builders hold their targets, and two more calls are left for each held target
pub record IsKept (names : List Text) (st : State ℕ) (calls : ℕ) : Type 0 where
  pub within : IsStateWithin (length names) st
  pub builders : BuildersHold (named_state (numbering names) st)
  pub closing : (ts : List ℕ) → IsDistinct nat_eq ts → AreTaken st.locks ts
      → calls + 2 * length ts < 2 ^ 32

pub record KeepsLive (inside : Inside) : Type 0 where
  pub few : length inside.names ≤ 16777216
  pub state : IsKept inside.names (state_of inside.redo) (calls_of inside.redo)
  pub numbers : inside.numbers ≡ tables_count inside.redo
