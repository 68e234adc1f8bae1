-- Which numbers below a count are in a set: a flag for each.
use Rattle.std.specs.Prelude.{ℕ, Bool, false, List, IsTrue, slice_index_or}

abbrev pub IsSet : List Bool → ℕ → Type 0
IsSet flags t = IsTrue (slice_index_or flags t false)
