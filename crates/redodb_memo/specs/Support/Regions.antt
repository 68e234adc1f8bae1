-- What is marked in a region, and among the out-of-date targets.
use Rattle.std.specs.Prelude.{◌⊎◌, ℕ, List, Contains}
use Rattle.redodb_model.specs.State.{Records}
use Rattle.redodb_model.specs.OutOfDate.{HasReason, Depends, Chain, OutOfDate}
use Rattle.redodb_memo.specs.NameSet.{Marked, IsMarked, IsQueued, Grows}

-- a chain of change rows leads from the target to a name with P, the empty chain included
abbrev pub Reaches : Records ℕ → (ℕ → Type 0) → ℕ → Type 0
Reaches r P t = (ns : List ℕ) × Chain (Depends r) P t ns

-- whatever depends on one of the names is marked
abbrev pub IsClosed : Records ℕ → List ℕ → Marked → Type 0
IsClosed r names m = (t n : ℕ) → Contains names n → Depends r t n → IsMarked m t

-- what is marked or queued is out of date
abbrev pub IsSound : Records ℕ → Marked → Type 0
IsSound r m = (t : ℕ) → IsMarked m t ⊎ IsQueued m t → OutOfDate r t

-- only names that reach a queued name were marked, and with each name of `done` all that depend on
-- it
pub record Spreads (r : Records ℕ) (done : List ℕ) (old new : Marked) : Type 0 where
  pub grown : Grows old new
  pub reaches : (t : ℕ) → IsMarked new t → IsMarked old t ⊎ Reaches r (IsQueued old) t
  pub closed : IsClosed r done new

-- a target has a reason of its own, or depends on a marked name
abbrev pub IsDue : Records ℕ → Marked → ℕ → Type 0
IsDue r m t = HasReason r t ⊎ ((n : ℕ) × Depends r t n × IsMarked m n)

-- those of the names that are due were marked, and all that depend on them, and nothing else but
-- out-of-date targets
pub record EntersDue (r : Records ℕ) (names : List ℕ) (old new : Marked) : Type 0 where
  pub grown : Grows old new
  pub sound : IsSound r old → IsSound r new
  pub closed : IsClosed r old.queue old → IsClosed r new.queue new
  pub due : (t : ℕ) → Contains names t → IsDue r old t → IsMarked new t
