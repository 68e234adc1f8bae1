-- The state of a search along change rows that began at a target.
use Rattle.std.specs.Prelude.{◌≡◌, ◌⊎◌, ◌<◌, ◌≤◌, ◌+◌, ◌++◌, ◌∷◌, [], ℕ, List, length, slice_index}
use Rattle.redodb_model.specs.State.{Records}
use Rattle.redodb_model.specs.OutOfDate.{HasReason, Depends}
use Rattle.redodb_model.specs.Why.{Reason, IsReason}
use Rattle.redodb_memo.specs.NameSet.{Marked, IsMarked, with_name}
use Rattle.redodb_memo.specs.Support.NameSet.{AreQueued}

-- each place of the queue but the first has a parent, an earlier place whose name depends on its
-- own; its depth is one more than its parent's, and no later place is less deep
pub record IsSearchTree (r : Records ℕ) (queue parents : List ℕ) : Type 0 where
  pub depth : ℕ → ℕ
  pub sized : length parents ≡ length queue
  pub earlier : (i : ℕ) → 0 < i → i < length queue → slice_index parents i < i
  pub step : (i : ℕ) → 0 < i → i < length queue
      → Depends r (slice_index queue (slice_index parents i)) (slice_index queue i)
  pub first : depth 0 ≡ 0
  pub deeper : (i : ℕ) → 0 < i → i < length queue
      → depth i ≡ depth (slice_index parents i) + 1
  pub rising : (i j : ℕ) → i ≤ j → j < length queue → depth i ≤ depth j

-- the name is at a place that is at most one deeper than place i
abbrev pub IsNear : List ℕ → (ℕ → ℕ) → ℕ → ℕ → Type 0
IsNear queue depth i n =
    (j : ℕ) × (j < length queue) × (slice_index queue j ≡ n) × (depth j ≤ depth i + 1)

-- the search reached the place `at`, and looked at the steps `Looked`, each from a place to a name
pub record IsSearch (r : Records ℕ) (Looked : ℕ → ℕ → Type 0) (at : ℕ) (seen : Marked)
    (parents : List ℕ) : Type 0
  where
    pub tree : IsSearchTree r seen.queue parents
    pub queued : AreQueued seen
    pub near : at < length seen.queue → (j : ℕ) → j < length seen.queue
        → tree.depth j ≤ tree.depth at + 1
    pub found : (i n : ℕ) → Looked i n → IsNear seen.queue tree.depth i n

-- the steps along change rows from the places before this one to names that are out of date
abbrev pub StepsBefore : Records ℕ → Marked → List ℕ → ℕ → ℕ → ℕ → Type 0
StepsBefore r out queue at i n = (i < at) × Depends r (slice_index queue i) n × IsMarked out n

-- given P, the name is found from a place, unless it was found before
abbrev pub Finds : Type 0 → ℕ → ℕ → Marked → List ℕ → Marked → List ℕ → Type 0
Finds P n from old parents new parents_after =
    ((new ≡ old) × (parents_after ≡ parents) × (P → IsMarked old n))
    ⊎ (P × (new ≡ with_name old n) × (parents_after ≡ parents ++ from ∷ []))

-- no name at a place from one up to another has a reason of its own
abbrev pub HaveNoReason : Records ℕ → List ℕ → ℕ → ℕ → Type 0
HaveNoReason r queue from to =
    (i : ℕ) → from ≤ i → i < to → HasReason r (slice_index queue i) → ⊥

-- of the places from one on, this is the first whose name has a reason of its own
pub record IsFirstReason (r : Records ℕ) (queue : List ℕ) (from place : ℕ)
    (reason : Reason ℕ) : Type 0
  where
    pub past : from ≤ place
    pub within : place < length queue
    pub none : HaveNoReason r queue from place
    pub own : IsReason r (slice_index queue place) reason

-- the names after place `from` on the path to place `to`: each is at a place whose parent is the
-- place before it
abbrev pub IsWay : List ℕ → List ℕ → ℕ → ℕ → List ℕ → Type 0
IsWay queue parents from to [] = from ≡ to
IsWay queue parents from to (n ∷ ns) = (i : ℕ) × (0 < i) × (i < length queue)
    × (slice_index parents i ≡ from) × (slice_index queue i ≡ n) × IsWay queue parents i to ns
