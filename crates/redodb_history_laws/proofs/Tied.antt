-- What the lines of a placed history say of the locks.
use Rattle.std.proofs.Common.{◌≡◌, ℕ, ◌+◌, Bool, true, false, eqb, List, [], Option, Some, None, is_some, refl, arith, eq-eqb, ne_eqb}
use Rattle.std.proofs.lemmas.Bool.{false≢true}
use Rattle.redodb_model.specs.Names.{Naming, put}
use Rattle.redodb_model.specs.State.{State, Locks, empty}
use Rattle.redodb_model.specs.Command.{Command}
use Rattle.redodb_model.specs.Step.{locks_freed, holds_name, is_held_by}
use Rattle.redodb_model.proofs.Held.{BuildersHold, builders_hold_at_first}
use Rattle.redodb_model.specs.Placed.{Place, Granted, Released, PlacedLine, part_of, grants_in, releases_in}
use Rattle.redodb_model.specs.Support.Placed.{holds_by}
use Rattle.redodb_history_laws.specs.ByRows.{records_by}
use Rattle.redodb_history_laws.proofs.Counts.{one_if}

pub none_of : (holder : Option ℕ) → one_if (is_some holder) ≡ 0 → holder ≡ None
none_of None e = refl
none_of (Some h) e = absurd (omega arith)

pub some_of : (holder : Option ℕ) → one_if (is_some holder) ≡ 1 → (h : ℕ) × (holder ≡ Some h)
some_of None e = absurd (omega arith)
some_of (Some h) e = (h, refl)

pub not_held : (s : ℕ) (holder : Option ℕ) → one_if (is_some holder) ≡ 0
    → one_if (is_held_by s holder) ≡ 0
not_held s None e = refl
not_held s (Some h) e = absurd (omega arith)

pub held_some : (s : ℕ) (holder : Option ℕ) → is_held_by s holder ≡ true
    → one_if (is_some holder) ≡ 1
held_some s None e = absurd (false≢true e)
held_some s (Some h) e = refl

module _ {N : Type 0} (naming : Naming N) where
  -- the locks are what the lines before say
  pub record Tied (state : State N) (before : List (PlacedLine N)) : Type 0 where
    pub grants : (t : N) → state.locks.grants t ≡ grants_in naming before t
    pub held : (t : N)
        → grants_in naming before t
        ≡ releases_in naming before t + one_if (is_some (state.locks.holder t))
    pub own : (s : ℕ) (t : N)
        → grants_in naming (part_of s before) t
        ≡ releases_in naming (part_of s before) t + one_if (is_held_by s (state.locks.holder t))
    pub builders : BuildersHold state

  pub tied_at_first : Tied empty []
  tied_at_first =
      record {
        grants = λ t. refl;
        held = λ t. refl;
        own = λ s t. refl;
        builders = builders_hold_at_first;
      }

  flag_at : (b : Bool) (g r : ℕ) → g ≡ r + one_if b → eqb g (r + 1) ≡ b
  flag_at true g r e = eq-eqb g (r + 1) e
  flag_at false g r e = ne_eqb g (r + 1) (λ q. omega arith)

  -- a session's own lines determine what it holds
  pub flag : (state : State N) (before : List (PlacedLine N)) (s : ℕ) (o : Option N)
      → Tied state before
      → holds_by naming (part_of s before) o ≡ holds_name state.locks s o
  flag state before s None tied = refl
  flag state before s (Some t) tied =
      flag_at (is_held_by s (state.locks.holder t)) _ _ (tied.own s t)

  -- the locks after a step at a place
  abbrev pub locks_by : Place N → Locks N → ℕ → Locks N
  locks_by (Granted t g) locks s =
      record {
        holder = put naming t (Some s) locks.holder;
        grants = put naming t (locks.grants t + 1) locks.grants;
      }
  locks_by (Released t g) locks s = locks_freed naming locks t
  locks_by place locks s = locks

  abbrev pub state_by : Place N → State N → List (PlacedLine N) → ℕ → Command N → State N
  state_by p st own s c =
      record { records = records_by naming p st.records own s c; locks = locks_by p st.locks s }
