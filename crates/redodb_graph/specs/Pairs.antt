-- Pairs of numbers in order.
use Rattle.std.specs.Prelude.{◌≡◌, ℕ, ◌<◌, ◌≤◌, ◌⊎◌, ◌↔◌, List, AllPairs, Contains, length}
use Rattle.std.specs.List.Sorted.{IsPartitionPoint}

-- pairs, and for how many first numbers it is known where their pairs begin
pub record PairsOf : Type 0 where
  pub count : ℕ
  pub items : List (ℕ × ℕ)

-- the first number is less, or it is the same and the second is less
abbrev pub ComesBefore : ℕ × ℕ → ℕ × ℕ → Type 0
ComesBefore p q = (p.0 < q.0) ⊎ ((p.0 ≡ q.0) × (p.1 < q.1))

-- each pair comes before those after it
abbrev pub AreAscending : List (ℕ × ℕ) → Type 0
AreAscending pairs = AllPairs ComesBefore pairs

-- the second list has the pairs of the first, and no other
abbrev pub AreThose : List (ℕ × ℕ) → List (ℕ × ℕ) → Type 0
AreThose listed pairs = (p : ℕ × ℕ) → Contains pairs p ↔ Contains listed p

-- the first numbers of the pairs are below t up to place i, and not from there on
pub record IsStart (pairs : List (ℕ × ℕ)) (t i : ℕ) : Type 0 where
  pub within : i ≤ length pairs
  pub parted : IsPartitionPoint (λ p. p.0 < t) (λ p. t ≤ p.0) pairs i
