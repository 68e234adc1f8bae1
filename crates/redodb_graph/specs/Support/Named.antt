-- Pairs by their names.
use Rattle.std.specs.Prelude.{◌≡◌, ℕ, ◌<◌, List, length, slice_index_or}

-- the names of the first `count` pairs, in order, each with the place of its pair
pub record AreByName (pairs : List (ℕ × ℕ)) (count : ℕ) (keys : List (ℕ × ℕ)) : Type 0 where
  pub whole : length keys ≡ count
  pub each : (k : ℕ) (d e : ℕ × ℕ) → k < count
      → slice_index_or keys k d ≡ ((slice_index_or pairs k e).1, k)
