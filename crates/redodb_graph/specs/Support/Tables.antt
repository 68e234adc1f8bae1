-- How the tables grow, and what holds of them.
use Rattle.std.specs.Prelude.{◌≡◌, ℕ, List, ◌++◌, Some, Contains, slice_get}
use Rattle.std.specs.List.{AllZip}
use Rattle.redodb_model.specs.Names.{Text}
use Rattle.redodb_graph.specs.Graphs.{IsOnce}
use Rattle.redodb_graph.specs.Steps.{TablesOf}

-- the second list begins with the first
abbrev pub IsPrefix : {X : Type 0} → List X → List X → Type 0
IsPrefix {X} old new = (more : List X) × (new ≡ old ++ more)

-- what had a number keeps it
pub record Grows (old new : TablesOf) : Type 0 where
  pub pairs : new.pairs ≡ old.pairs
  pub listed : IsPrefix old.listed new.listed
  pub stamps : IsPrefix old.stamps new.stamps
  pub digests : IsPrefix old.digests new.digests

-- no stamp and no digest has two numbers
pub record AreOnce (stamps : List Text) (digests : List (List ℕ)) : Type 0 where
  pub stamp : IsOnce stamps
  pub digest : IsOnce digests

-- each of the keys is one of the pairs
abbrev pub Covers : List (ℕ × ℕ) → List (ℕ × ℕ) → Type 0
Covers pairs keys = (p : ℕ × ℕ) → Contains keys p → Contains pairs p

-- the places of the pairs of t on these names are appended
abbrev pub ArePlaces : List (ℕ × ℕ) → ℕ → List ℕ → List ℕ → List ℕ → Type 0
ArePlaces pairs t names old new =
    (more : List ℕ) × (new ≡ old ++ more)
    × AllZip (λ n i. slice_get pairs i ≡ Some (t, n)) names more
