-- On which names a target has rows, over numbers of names and under other names.
use Rattle.std.specs.Prelude.{ℕ, map}
use Rattle.redodb_model.specs.Renaming.{AllBelow}
use Rattle.redodb_model.specs.Deps.{Deps}

-- all their names are below n
pub record AreDepsBelow (n : ℕ) (deps : Deps ℕ) : Type 0 where
  pub change : AllBelow n deps.change
  pub created : AllBelow n deps.created

-- the same under other names
abbrev pub named_deps : {N M : Type 0} → (N → M) → Deps N → Deps M
named_deps name deps =
    record { change = map name deps.change; created = map name deps.created; always = deps.always }
