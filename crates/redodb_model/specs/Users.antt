-- Which targets have rows on a name.
use Rattle.std.specs.Prelude.{List}
use Rattle.redodb_model.specs.Names.{Naming, IsListed}
use Rattle.redodb_model.specs.State.{Records}
use Rattle.redodb_model.specs.OutOfDate.{HasChangeRow, HasCreatedRow}

-- the targets with a change row, and those with a created row
pub record Users (N : Type 0) : Type 0 where
  pub change : List N
  pub created : List N

-- these are the targets with rows on n, each list in order
pub record AreUsers {N : Type 0} (naming : Naming N) (r : Records N) (n : N)
    (users : Users N) : Type 0
  where
    pub change : IsListed naming (λ t. HasChangeRow r t n) users.change
    pub created : IsListed naming (λ t. HasCreatedRow r t n) users.created
