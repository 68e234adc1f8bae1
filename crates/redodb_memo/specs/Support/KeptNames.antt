-- The value of a name set's fields, and their invariant.
use Rattle.std.specs.Prelude.{◌≤◌, vec_capacity}
use Rattle.redodb_memo.specs.NameSet.{Marked, IsQueue, size_of}
use Rattle.redodb_memo.specs.declared.name_set.NameSet.TheInside.{Inside}

abbrev pub marked_of : Inside → Marked
marked_of inside = record { marks = inside.marks; queue = inside.queue.items }

-- the queue has capacity for all names
pub record KeepsMarked (inside : Inside) : Type 0 where
  pub queue : IsQueue (marked_of inside)
  pub room : size_of (marked_of inside) ≤ vec_capacity inside.queue
