-- Names in order, and their places.
use Rattle.std.specs.Prelude.{◌≡◌, ◌<◌, ℕ, List, length, slice_index}
use Rattle.redodb_model.specs.Names.{IsListed, numbers}
use Rattle.redodb_model.specs.Renaming.{AllBelow}
use Rattle.redodb_names.specs.Orders.{by_place}

-- the list has each number below the count, once
abbrev pub IsOrderOf : ℕ → List ℕ → Type 0
IsOrderOf count sorted = IsListed (numbers (by_place sorted)) (λ n. n < count) sorted

-- the names with P, in order, each a number below the count
pub record AreInOrder (sorted : List ℕ) (count : ℕ) (P : ℕ → Type 0)
    (names : List ℕ) : Type 0 where
  pub listed : IsListed (numbers (by_place sorted)) P names
  pub below : AllBelow count names

-- the places with At are those of the names with P in the order
pub record ArePlaces (sorted : List ℕ) (P At : ℕ → Type 0) : Type 0 where
  pub below : (k : ℕ) → At k → k < length sorted
  pub from : (k : ℕ) → At k → P (slice_index sorted k)
  pub all : (n : ℕ) → P n → (k : ℕ) × At k × (slice_index sorted k ≡ n)
