-- Bytes that grow by a prefix of what is sent, or lose some of what is to be read.
use Rattle.std.specs.Prelude.{◌≡◌, ℕ, ◌<◌, ◌≤◌, Option, List, ◌++◌, length}
use Rattle.std.specs.Io.KnownBytes.{Appends, Consumes}

-- known bytes grow by a prefix of these bytes
abbrev pub AppendsPrefix : Option (List ℕ) → Option (List ℕ) → List ℕ → Type 0
AppendsPrefix old new bytes =
    (sent : List ℕ) × (rest : List ℕ) × (bytes ≡ sent ++ rest) × Appends old new sent

-- known bytes begin with at least one and at most this many, and lose them
abbrev pub ConsumesSome : Option (List ℕ) → Option (List ℕ) → ℕ → Type 0
ConsumesSome old new most =
    (taken : List ℕ) × (0 < length taken) × (length taken ≤ most) × Consumes old new taken
