-- The replies of the database.
use Rattle.std.specs.Prelude.{ℕ, Bool, true, false, List}

pub data Refusal (N : Type 0) : Type 0 where
  NotLocked : Refusal N
  Building : Refusal N
  NotBuilding : Refusal N
  Itself : Refusal N
  Exists : N → Refusal N

pub data Reply (N : Type 0) : Type 0 where
  Okay : Reply N
  Granted : ℕ → Reply N
  Busy : ℕ → Reply N
  Stale : List N → Reply N
  Stamped : List ℕ → Reply N
  Ood : List N → Reply N
  Targets : List N → Reply N
  Sources : List N → Reply N
  Refused : Refusal N → Reply N

-- a guarded line isn't done after the reply `busy`, or a refusal
abbrev pub lets_through : {N : Type 0} → Reply N → Bool
lets_through (Busy g) = false
lets_through (Refused refusal) = false
lets_through reply = true
