-- The value of the fields of `Pairs`, and their invariant.
use Rattle.std.specs.Prelude.{◌≡◌, ◌↔◌, ℕ, ◌<◌, ◌≤◌, ◌+◌, ◌-◌, ◌^◌, List, [], Contains, length, slice_index, slice_index_or}
use Rattle.redodb_graph.specs.declared.pairs.Pairs.TheInside.{Inside}
use Rattle.redodb_graph.specs.Pairs.{PairsOf, AreAscending, IsStart}

-- each block has the second numbers of the pairs with its first number, from the number `from` on
abbrev pub AreBlocks : ℕ → List (ℕ × ℕ) → List (List ℕ) → Type 0
AreBlocks from pairs blocks =
    (t n : ℕ) → from ≤ t → Contains (slice_index_or blocks t []) n ↔ Contains pairs (t, n)

-- for each number below `count`, where its pairs begin
pub record AreStarts (pairs : List (ℕ × ℕ)) (count : ℕ) (starts : List ℕ) : Type 0 where
  pub whole : length starts ≡ count
  pub each : (t : ℕ) → t < count → IsStart pairs t (slice_index starts t)

abbrev pub pairs_of : Inside → PairsOf
pairs_of inside = record {
  count = length inside.starts.items - 1;
  items = inside.pairs.items;
}

pub record KeepsPairs (inside : Inside) : Type 0 where
  pub ascending : AreAscending inside.pairs.items
  pub few : length inside.pairs.items < 2 ^ 32
  pub below : (p : ℕ × ℕ) → Contains inside.pairs.items p → p.0 + 1 < length inside.starts.items
  pub some : 1 ≤ length inside.starts.items
  pub small : length inside.starts.items ≤ 2 ^ 32
  pub starts : AreStarts inside.pairs.items (length inside.starts.items) inside.starts.items
