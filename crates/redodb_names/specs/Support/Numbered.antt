-- Pairs of a text and its number.
use Rattle.std.specs.Prelude.{◌≡◌, ℕ, ◌<◌, List, slice_index_or, length}
use Rattle.std.specs.Borrow.{Bor}
use Rattle.redodb_model.specs.Names.{text_at}

-- the numbers below `count`, in order, each with its text
pub record AreNumbered (names : List (List ℕ)) (count : ℕ)
    (pairs : List (Bor (List ℕ) × ℕ)) : Type 0 where
  pub whole : length pairs ≡ count
  pub number : (k : ℕ) (d : Bor (List ℕ) × ℕ) → k < count → (slice_index_or pairs k d).1 ≡ k
  pub text : (k : ℕ) (d : Bor (List ℕ) × ℕ) → k < count
      → (slice_index_or pairs k d).0.now ≡ text_at names k
