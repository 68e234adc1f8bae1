-- The meaning of the code's answers.
use Rattle.std.specs.Prelude.{ℕ}
use Rattle.redodb_model.specs.Deps as model
use Rattle.redodb_model.specs.Users as users
use Rattle.redodb_model.specs.Why as whys
use Rattle.redodb_database.specs.declared.deps.Deps.{Deps}
use Rattle.redodb_database.specs.declared.reason.Reason.{Reason}
use Rattle.redodb_database.specs.declared.reason.Reason.TheVariants.{Building, Failed, Edited, Always, Appeared, Changed}
use Rattle.redodb_database.specs.declared.users.Users.{Users}
use Rattle.redodb_database.specs.declared.why.Why.{Why}

abbrev pub deps_of : Deps → model.Deps ℕ
deps_of deps = record {
  change = deps.change.items;
  created = deps.created.items;
  always = deps.always;
}

abbrev pub users_of : Users → users.Users ℕ
users_of named = record { change = named.change.items; created = named.created.items }

abbrev pub reason_of : Reason → whys.Reason ℕ
reason_of Building = whys.Building
reason_of Failed = whys.Failed
reason_of Edited = whys.Edited
reason_of Always = whys.Always
reason_of (Appeared n) = whys.Appeared n
reason_of (Changed n) = whys.Changed n

abbrev pub why_of : Why → whys.Why ℕ
why_of why = record { names = why.names.items; reason = reason_of why.reason }
