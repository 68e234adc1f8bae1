-- Replies whose lists are reordered.
use Rattle.std.specs.Prelude.{◌≡◌, ℕ, List}
use Rattle.std.specs.List.Sorted.{IsPermutation, IsSorted}
use Rattle.std.specs.declared.cmp.Ordering.{Ordering}
use Rattle.redodb_model.specs.Reply.{Reply, Stale, Ood, Targets, Sources}

-- the same numbers, sorted
pub record AreSortedAgain (order : ℕ → ℕ → Ordering) (old new : List ℕ) : Type 0 where
  pub same : IsPermutation old new
  pub sorted : IsSorted order new

-- the same reply, with its numbers sorted
abbrev pub IsSortedReply : (ℕ → ℕ → Ordering) → Reply ℕ → Reply ℕ → Type 0
IsSortedReply order (Stale ns) reply =
    (ms : List ℕ) × AreSortedAgain order ns ms × (reply ≡ Stale ms)
IsSortedReply order (Ood ns) reply = (ms : List ℕ) × AreSortedAgain order ns ms × (reply ≡ Ood ms)
IsSortedReply order (Targets ns) reply =
    (ms : List ℕ) × AreSortedAgain order ns ms × (reply ≡ Targets ms)
IsSortedReply order (Sources ns) reply =
    (ms : List ℕ) × AreSortedAgain order ns ms × (reply ≡ Sources ms)
IsSortedReply order other reply = reply ≡ other
