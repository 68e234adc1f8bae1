-- A set of names by marks, and a queue of the names that were marked.
use Rattle.std.specs.Prelude.{◌≡◌, ◌↔◌, ℕ}
use Rattle.redodb_memo.specs.NameSet.{Marked, IsMarked, IsQueued, size_of}

-- each marked name is queued
abbrev pub AreQueued : Marked → Type 0
AreQueued m = (t : ℕ) → IsMarked m t → IsQueued m t

-- exactly the names with P are marked, and all of them are queued
pub record MarksOnly (P : ℕ → Type 0) (m : Marked) : Type 0 where
  pub queued : (t : ℕ) → IsQueued m t ↔ P t
  pub marked : AreQueued m

-- nothing is marked or queued, and there are as many names
pub record IsCleared (names : ℕ) (m : Marked) : Type 0 where
  pub sized : size_of m ≡ names
  pub unmarked : (t : ℕ) → IsMarked m t → ⊥
  pub empty : (t : ℕ) → IsQueued m t → ⊥
