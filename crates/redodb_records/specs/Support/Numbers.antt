-- The places of numbers in ascending order, each number once.
use Rattle.std.specs.Prelude.{◌≡◌, ◌⊎◌, ◌↔◌, ℕ, ◌+◌, ◌<◌, ◌≤◌, List, AllPairs, Contains, length, slice_index_or}
use Rattle.redodb_records.specs.Numbers.{Place}

-- each place's number is greater than those before it, whether they are there or not
abbrev pub InOrder : List Place → Type 0
InOrder places = AllPairs (λ p q. p.number < q.number) places

-- the place at i is that of x
pub record IsPlaceOf (places : List Place) (x i : ℕ) : Type 0 where
  pub within : i < length places
  pub numbered : (d : Place) → (slice_index_or places i d).number ≡ x

-- a place of x would go at i: smaller numbers before it, and greater ones from it on
pub record IsGapFor (places : List Place) (x i : ℕ) : Type 0 where
  pub within : i ≤ length places
  pub before : (k : ℕ) (d : Place) → k < i → (slice_index_or places k d).number < x
  pub after : (k : ℕ) (d : Place) → i ≤ k → k < length places
      → x < (slice_index_or places k d).number

-- the new list has the numbers of the old one, and one more
pub record HasOneMore (x : ℕ) (old new : List ℕ) : Type 0 where
  pub each : (u : ℕ) → Contains new u ↔ (Contains old u ⊎ (u ≡ x))
  pub longer : length new ≡ length old + 1
