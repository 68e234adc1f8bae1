-- Why a target is out of date.
use Rattle.std.specs.Prelude.{◌≡◌, ◌≢◌, ◌≤◌, List, [], ◌∷◌, Option, Some, None, IsTrue, length}
use Rattle.redodb_model.specs.State as states
use Rattle.redodb_model.specs.State.{Records, Mark, target_state, is_building, mark_of}
use Rattle.redodb_model.specs.OutOfDate.{IsEdited, HasReason, HasCreatedRow, HasFile, Depends, Chain, OutOfDate}

-- a target's reason of its own: it is building, its last build failed, its file was edited, it has
-- an always row, a name without a file has one now, a name has changed
pub data Reason (N : Type 0) : Type 0 where
  Building : Reason N
  Failed : Reason N
  Edited : Reason N
  Always : Reason N
  Appeared : N → Reason N
  Changed : N → Reason N

-- t has this reason; all but the first two apply only to a built target
abbrev pub IsReason : {N : Type 0} → Records N → N → Reason N → Type 0
IsReason r t Building = IsTrue (is_building (target_state r t))
IsReason r t Failed = target_state r t ≡ states.Failed
IsReason r t Edited = (target_state r t ≡ states.Built) × IsEdited r t
IsReason r t Always = (target_state r t ≡ states.Built) × IsTrue (r.rows.always t)
IsReason r t (Appeared n) =
    (target_state r t ≡ states.Built) × HasCreatedRow r t n × HasFile r n
IsReason r t (Changed n) = (target_state r t ≡ states.Built)
    × ((mark : Mark) × (r.rows.change t n ≡ Some mark) × (mark ≢ mark_of r n))

-- the names after a target on the way to one that has a reason of its own, and that reason
pub record Why (N : Type 0) : Type 0 where
  pub names : List N
  pub reason : Reason N

-- the last of t and the names after it
abbrev pub end_of : {N : Type 0} → N → List N → N
end_of t [] = t
end_of t (n ∷ ns) = end_of n ns

-- a chain leads from t over these names to a target with a reason of its own, none is shorter, and
-- the reason is that of its end
pub record Explains {N : Type 0} (r : Records N) (t : N) (why : Why N) : Type 0 where
  pub chain : Chain (Depends r) (HasReason r) t why.names
  pub shortest : (names : List N) → Chain (Depends r) (HasReason r) t names
      → length why.names ≤ length names
  pub reason : IsReason r (end_of t why.names) why.reason

-- the answer why t is out of date: nothing if it isn't
abbrev pub TellsWhy : {N : Type 0} → Records N → N → Option (Why N) → Type 0
TellsWhy r t None = OutOfDate r t → ⊥
TellsWhy r t (Some why) = Explains r t why
