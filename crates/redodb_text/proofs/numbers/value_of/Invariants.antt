use Rattle.std.proofs.Common.{◌≡◌, ◌≤◌, drop}
use Rattle.std.specs.Str.{all_ascii_digits}
use Rattle.std.specs.Str.Parse.{digits_value, digits_value_after}
use Rattle.redodb_text.proofs.numbers.value_of.Given as goal

abbrev pub invariant-loop-digit : goal.invariant-loop-digit
invariant-loop-digit l = record {
  digits : all_ascii_digits (drop l.digit-index l.word) ≡ all_ascii_digits l.word;
  small : l.value ≤ 4294967295;
  value : digits_value_after 10 l.value (drop l.digit-index l.word) ≡ digits_value 10 l.word;
}
