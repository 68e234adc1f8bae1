use Rattle.std.proofs.Common.{◌≡◌, drop}
use Rattle.std.specs.Str.Parse.{digits_value, digits_value_after}
use Rattle.redodb_dump.proofs.loaded.size_of.Given as goal

abbrev pub invariant-loop-digit : goal.invariant-loop-digit
invariant-loop-digit l =
    digits_value_after 10 l.size (drop l.digit-index l.word) ≡ digits_value 10 l.word
