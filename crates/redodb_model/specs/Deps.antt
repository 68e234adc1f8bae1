-- On which names a target has rows.
use Rattle.std.specs.Prelude.{◌≡◌, Bool, List}
use Rattle.redodb_model.specs.Names.{Naming, IsListed}
use Rattle.redodb_model.specs.State.{Records}
use Rattle.redodb_model.specs.OutOfDate.{HasChangeRow, HasCreatedRow}

-- the names with a change row, those with a created row, and whether there is an always row
pub record Deps (N : Type 0) : Type 0 where
  pub change : List N
  pub created : List N
  pub always : Bool

-- these are the rows of t, each list in order
pub record AreDeps {N : Type 0} (naming : Naming N) (r : Records N) (t : N) (deps : Deps N) : Type 0
  where
    pub change : IsListed naming (HasChangeRow r t) deps.change
    pub created : IsListed naming (HasCreatedRow r t) deps.created
    pub always : deps.always ≡ r.rows.always t
