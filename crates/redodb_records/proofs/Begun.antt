-- The fields of rows without a row.
use Rattle.std.proofs.Common.{◌≡◌, List, [], ◌∷◌, ◌++◌, refl, zero, suc}
use Rattle.redodb_records.specs.Numbers.{NumberList}
use Rattle.redodb_records.specs.Support.Kept.{AreEmpty}

-- one more empty list
pub empty_push : (lists : List NumberList) (list : NumberList) → AreEmpty lists → list.items ≡ []
    → AreEmpty (lists ++ list ∷ [])
empty_push [] list empty none zero = none
empty_push [] list empty none (suc n) = refl
empty_push (first ∷ lists) list empty none zero = empty zero
empty_push (first ∷ lists) list empty none (suc n) =
    empty_push lists list (λ k. empty (suc k)) none n
