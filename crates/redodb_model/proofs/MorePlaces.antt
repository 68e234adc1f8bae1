-- Lists with more places.
use Rattle.std.proofs.Common.{◌≡◌, ℕ, zero, suc, List, [], ◌∷◌, ◌++◌, get_or, refl}
use Rattle.std.proofs.Math.ListN.{replicate}

-- a list of one value
pub same_everywhere : {X : Type 0} (n k : ℕ) (x : X) → get_or (replicate n x) k x ≡ x
same_everywhere zero k x = refl
same_everywhere (suc n) zero x = refl
same_everywhere (suc n) (suc k) x = same_everywhere n k x

-- past its end a list has the default anyway
pub get_or-extended : {X : Type 0} (xs : List X) (n k : ℕ) (x : X)
    → get_or (xs ++ replicate n x) k x ≡ get_or xs k x
get_or-extended [] n k x = same_everywhere n k x
get_or-extended (y ∷ xs) n zero x = refl
get_or-extended (y ∷ xs) n (suc k) x = get_or-extended xs n k x
