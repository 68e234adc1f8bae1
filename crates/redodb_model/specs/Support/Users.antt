-- Which targets have rows on a name, over numbers of names and under other names.
use Rattle.std.specs.Prelude.{◌≡◌, ℕ, false, None, map}
use Rattle.redodb_model.specs.Renaming.{AllBelow}
use Rattle.redodb_model.specs.State.{Records}
use Rattle.redodb_model.specs.Users.{Users}

-- all their names are below n
pub record AreUsersBelow (n : ℕ) (users : Users ℕ) : Type 0 where
  pub change : AllBelow n users.change
  pub created : AllBelow n users.created

-- the same under other names
abbrev pub named_users : {N M : Type 0} → (N → M) → Users N → Users M
named_users name users =
    record { change = map name users.change; created = map name users.created }

-- no target has a row on the name
pub record IsUnused {N : Type 0} (r : Records N) (n : N) : Type 0 where
  pub change : (t : N) → r.rows.change t n ≡ None
  pub created : (t : N) → r.rows.created t n ≡ false
