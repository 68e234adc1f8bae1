-- Answers over numbers, under the names that they stand for.
use Rattle.std.specs.Prelude.{List}
use Rattle.redodb_model.specs.Names.{Text, text_at}
use Rattle.redodb_model.specs.Deps as model
use Rattle.redodb_model.specs.Why as whys
use Rattle.redodb_model.specs.Support.Deps.{named_deps}
use Rattle.redodb_model.specs.Users as users
use Rattle.redodb_model.specs.Support.Users.{named_users}
use Rattle.redodb_model.specs.Support.Why.{named_why}
use Rattle.redodb_database.specs.Meaning.{deps_of, users_of, why_of}
use Rattle.redodb_database.specs.declared.why.Why.{Why}
use Rattle.redodb_database.specs.declared.deps.Deps.{Deps}
use Rattle.redodb_database.specs.declared.users.Users.{Users}

abbrev pub why_at : List Text → Why → whys.Why Text
why_at names why = named_why (text_at names) (why_of why)

abbrev pub deps_at : List Text → Deps → model.Deps Text
deps_at names deps = named_deps (text_at names) (deps_of deps)

abbrev pub users_at : List Text → Users → users.Users Text
users_at names users = named_users (text_at names) (users_of users)
