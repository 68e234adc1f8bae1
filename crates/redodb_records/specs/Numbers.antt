-- Numbers in ascending order.
use Rattle.std.specs.Prelude.{ℕ, ◌<◌, Bool, List, AllPairs, map, filter}

-- the numbers, and for how many there is memory
pub record NumberList : Type 0 where
  pub items : List ℕ
  pub room : ℕ

-- the place of a number, and whether the number is there
pub record Place : Type 0 where
  pub number : ℕ
  pub is_there : Bool

-- the numbers that are there
abbrev pub numbers_there : List Place → List ℕ
numbers_there places = map (λ place. place.number) (filter (λ place. place.is_there) places)

-- each number is greater than those before it
abbrev pub Rising : List ℕ → Type 0
Rising xs = AllPairs (λ x y. x < y) xs
