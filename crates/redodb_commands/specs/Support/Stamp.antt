-- The fields of a file stamp, and their invariant.
use Rattle.std.specs.Prelude.{◌≡◌, ℕ, ◌-◌, ◌≤◌, true, List, ◌++◌, length, take, replicate}
use Rattle.std.proofs.Common.{ap, sym, ◌∙◌}
use Rattle.redodb_commands.specs.Stamp.{is_stamp}

-- the text, and zeros up to the length of the longest stamp
abbrev pub padded : List ℕ → List ℕ
padded text = text ++ replicate (64 - length text) 0

-- the first bytes are a stamp's, and zeros follow
pub record IsPadded (len : ℕ) (bytes : List ℕ) : Type 0 where
  pub within : len ≤ 64
  pub whole : length (take len bytes) ≡ len
  pub zeros : bytes ≡ take len bytes ++ replicate (64 - len) 0
  pub stamp : is_stamp (take len bytes) ≡ true

-- a stamp's bytes give its fields back
pub length-taken : (len : ℕ) (bytes : List ℕ) → IsPadded len bytes → length (take len bytes) ≡ len
length-taken len bytes is = is.whole

pub padded-take : (len : ℕ) (bytes : List ℕ) → IsPadded len bytes → padded (take len bytes) ≡ bytes
padded-take len bytes is =
    ap (λ (n : ℕ). take len bytes ++ replicate (64 - n) 0) is.whole ∙ sym is.zeros
