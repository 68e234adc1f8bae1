-- What a session had seen of a history.
use Rattle.std.specs.Prelude.{◌≡◌, ℕ, ◌<◌, ◌≤◌, ◌⊎◌, List, [], ◌∷◌}
use Rattle.redodb_model.specs.Placed.{Place, Row, Granted, Busy, Released, PlacedLine}

-- one of the lines has the place
abbrev pub StandsIn : {N : Type 0} → List (PlacedLine N) → Place N → Type 0
StandsIn [] place = ⊥
StandsIn (line ∷ lines) place = (line.place ≡ place) ⊎ StandsIn lines place

-- one of the lines was answered by the g-th grant of the target: granted, or busy
abbrev pub IsToldOf : {N : Type 0} → List (PlacedLine N) → N → ℕ → Type 0
IsToldOf lines t g = StandsIn lines (Granted t g) ⊎ StandsIn lines (Busy t g)

-- what a session with these lines had seen: its latest row and every row before it; and of each
-- target whose g-th grant a reply named, that grant, those before it and their releases
abbrev pub HasSeen : {N : Type 0} → List (PlacedLine N) → Place N → Type 0
HasSeen own (Row q) = (r : ℕ) × (q ≤ r) × StandsIn own (Row r)
HasSeen own (Granted t f) = (g : ℕ) × (1 ≤ f) × (f ≤ g) × IsToldOf own t g
HasSeen own (Busy t f) = ⊥
HasSeen own (Released t f) = (g : ℕ) × (1 ≤ f) × (f < g) × IsToldOf own t g
