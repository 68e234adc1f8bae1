use Rattle.std.proofs.Common.{◌≡◌, take}
use Rattle.redodb_records.specs.Numbers.{numbers_there}
use Rattle.redodb_database.proofs.users.numbers_at.Given as goal

abbrev pub invariant-loop-place : goal.invariant-loop-place
invariant-loop-place l = l.numbers.items ≡ numbers_there (take l.place-index l.places)
