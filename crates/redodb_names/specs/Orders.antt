-- The order of numbers by the texts that they stand for.
use Rattle.std.specs.Prelude.{◌≡◌, ℕ, ◌<◌, ◌==◌, List, Contains, length, slice_index}
use Rattle.std.specs.List.{position_or_len}
use Rattle.std.specs.Ordering.{nat_cmp}
use Rattle.std.specs.declared.cmp.Ordering.{Ordering}
use Rattle.redodb_model.specs.Names.{IsListed, by_text}

-- the place of a number in a list
abbrev pub place : List ℕ → ℕ → ℕ
place sorted n = position_or_len (λ m. m == n) sorted

-- the order of the numbers in a list
unfoldable pub by_place : List ℕ → ℕ → ℕ → Ordering
by_place sorted m n = nat_cmp (place sorted m) (place sorted n)

-- the numbers of all names, each once, in the order of their texts
pub record AreSorted (names : List (List ℕ)) (sorted : List ℕ) : Type 0 where
  pub listed : IsListed (by_text names) (λ n. n < length names) sorted
  pub whole : length sorted ≡ length names

-- each number of the list has a rank, which is its place there
pub record AreRanks (sorted ranks : List ℕ) : Type 0 where
  pub within : (n : ℕ) → Contains sorted n → n < length ranks
  pub below : (n : ℕ) → Contains sorted n → slice_index ranks n < length sorted
  pub at : (n : ℕ) → Contains sorted n → slice_index sorted (slice_index ranks n) ≡ n
