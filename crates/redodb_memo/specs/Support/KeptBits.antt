-- The value of a set's words, and their invariant.
use Rattle.std.specs.Prelude.{◌≡◌, ◌≤◌, ◌+◌, ◌/◌, ◌%◌, ◌^◌, ◌<◌, ◌==◌, ℕ, Bool, false, List, length, map, slice_index}
use Rattle.std.specs.Int.{bit_at}
use Rattle.std.specs.List.{range_with_len}
use Rattle.redodb_memo.specs.declared.bits.Bits.TheInside.{Inside}

-- whether the words have the number's bit
unfoldable pub has_bit : List ℕ → ℕ → Bool
has_bit words t = bit_at (slice_index words (t / 64)) (t % 64) == 1

-- whether the words have the bit of each number below the count
abbrev pub bits_below : List ℕ → ℕ → List Bool
bits_below words count = map (has_bit words) (range_with_len 0 count)

-- the words have no bit from the count on
abbrev pub HasNonePast : List ℕ → ℕ → Type 0
HasNonePast words count = (t : ℕ) → count ≤ t → has_bit words t ≡ false

abbrev pub flags_of : Inside → List Bool
flags_of inside = bits_below inside.words.items inside.count

-- there are just enough words, and each number below the count has 32 bits
pub record KeepsBits (inside : Inside) : Type 0 where
  pub enough : length inside.words.items ≡ (inside.count + 63) / 64
  pub none_past : HasNonePast inside.words.items inside.count
  pub few : inside.count < 2 ^ 32
