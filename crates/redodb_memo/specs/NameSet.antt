-- A set of names by marks, and a queue of the names that were marked.
use Rattle.std.specs.Prelude.{◌≡◌, ◌≢◌, ◌⊎◌, ◌↔◌, ◌<◌, ◌≤◌, ◌+◌, ◌^◌, ◌++◌, ◌∷◌, [], ℕ, Bool, true, not, List, Contains, AllPairs, length, slice_set, count_by}
use Rattle.redodb_memo.specs.Bits.{IsSet}

-- whether each name is marked, and the names that were marked since the queue was emptied
pub record Marked : Type 0 where
  pub marks : List Bool
  pub queue : List ℕ

-- how many names there are
abbrev pub size_of : Marked → ℕ
size_of m = length m.marks

abbrev pub IsMarked : Marked → ℕ → Type 0
IsMarked m t = IsSet m.marks t

abbrev pub IsQueued : Marked → ℕ → Type 0
IsQueued m t = Contains m.queue t

-- the marks and the queue with one more name
abbrev pub with_name : Marked → ℕ → Marked
with_name m t = record { marks = slice_set m.marks t true; queue = m.queue ++ t ∷ [] }

-- the queue has marked names, each once
pub record IsQueue (m : Marked) : Type 0 where
  pub marked : (t : ℕ) → IsQueued m t → IsMarked m t
  pub once : AllPairs (λ s t. s ≢ t) m.queue
  pub counted : length m.queue + count_by not m.marks ≤ size_of m
  pub few : size_of m < 2 ^ 32

-- more names may be marked, and the new ones are at the end of the queue
pub record Grows (old new : Marked) : Type 0 where
  pub sized : size_of new ≡ size_of old
  pub keeps : (t : ℕ) → IsMarked old t → IsMarked new t
  pub behind : (ns : List ℕ) × (new.queue ≡ old.queue ++ ns)
  pub queued : (t : ℕ) → IsQueued new t
      ↔ (IsQueued old t ⊎ (IsMarked new t × (IsMarked old t → ⊥)))

-- the names with P are marked too
pub record Enters (P : ℕ → Type 0) (old new : Marked) : Type 0 where
  pub grown : Grows old new
  pub each : (t : ℕ) → IsMarked new t ↔ (IsMarked old t ⊎ P t)

-- the queue is empty, and the names with P aren't marked any more
pub record Unmarks (P : ℕ → Type 0) (old new : Marked) : Type 0 where
  pub sized : size_of new ≡ size_of old
  pub none : (t : ℕ) → IsQueued new t → ⊥
  pub each : (t : ℕ) → IsMarked new t ↔ (IsMarked old t × (P t → ⊥))
