use Rattle.std.proofs.Common.{◌≡◌, ◌+◌, ◌-◌, ◌*◌, true, drop, get_or, sym, ◌∙◌, arith}
use Rattle.std.specs.Char.{is_ascii_digit}
use Rattle.std.specs.Str.Parse.{digits_value, digits_value_after}
use Rattle.redodb_text.proofs.Numerals.{value_grows, value_more}
use Rattle.redodb_text.proofs.numbers.value_of.Goals as goal

pub returns-then-more : goal.returns-then-more
returns-then-more c digits le =
    let word = c.args.word.now in
    let i = c.loop-digit.digit-index in
    let v = c.loop-digit.value in
    let digit : is_ascii_digit (get_or word i 0) ≡ true =
    sym c.is_ascii_digit.ensures.value ∙ c.if-not-is_ascii_digit.false in
    let more = v * 10 + (get_or word i 0 - 48) in
    let value : digits_value_after 10 more (drop (i + 1) word) ≡ digits_value 10 word =
    sym (value_more word i v c.loop-digit-test.true digit) ∙ c.loop-digit.invariant.value in
    omega (arith, value, value_grows more (drop (i + 1) word), c.if-more.true)
