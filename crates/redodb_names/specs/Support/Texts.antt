-- Texts that lie one behind the other.
use Rattle.std.specs.Prelude.{ℕ, zero, suc, ◌-◌, ◌≤◌, List, [], ◌∷◌, take, drop, ⊤}

-- the texts in these bytes from this place on, by where each ends
abbrev pub pieces : ℕ → List ℕ → List ℕ → List (List ℕ)
pieces from [] bytes = []
pieces from (end ∷ ends) bytes = take (end - from) (drop from bytes) ∷ pieces end ends bytes

-- where the text of this number begins
abbrev pub start_at : ℕ → List ℕ → ℕ → ℕ
start_at from ends zero = from
start_at from [] (suc n) = from
start_at from (end ∷ ends) (suc n) = start_at end ends n

-- each text ends behind its beginning, and within so many bytes
abbrev pub AreEnds : ℕ → List ℕ → ℕ → Type 0
AreEnds from [] size = ⊤
AreEnds from (end ∷ ends) size = (from ≤ end) × (end ≤ size) × AreEnds end ends size
