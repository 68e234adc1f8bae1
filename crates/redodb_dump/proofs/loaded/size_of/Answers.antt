use Rattle.std.proofs.Common.{◌≡◌, ◌∙◌, ◌+◌, ◌-◌, ◌*◌, true, Some, drop, get_or, sym, ap, subst, arith}
use Rattle.std.specs.Char.{is_ascii_digit}
use Rattle.std.specs.Str.Parse.{AllDigits, digits_value, digits_value_after}
use Rattle.std.proofs.lemmas.Bool.{false≢true}
use Rattle.std.proofs.lemmas.Fmt.{decimal_is_IsNumeral}
use Rattle.std.proofs.lemmas.List.{drop_all}
use Rattle.redodb_text.proofs.Numerals.{value_grows, value_more}
use Rattle.redodb_dump.proofs.ReadWords.{digit_at}
use Rattle.redodb_dump.proofs.loaded.size_of.Goals as goal

pub returns-then-not-is_ascii_digit : goal.returns-then-not-is_ascii_digit
returns-then-not-is_ascii_digit c = λ n few e.
    let word = c.args.word.now in
    let i = c.loop-digit.digit-index in
    let numeral = decimal_is_IsNumeral n few in
    let digit : is_ascii_digit (get_or word i 0) ≡ true =
    digit_at word (subst (AllDigits 10) (sym e) numeral.0.1) i c.loop-digit-test.true in
    absurd (false≢true
    (sym c.if-not-is_ascii_digit.true ∙ c.is_ascii_digit.ensures.value ∙ digit))

pub returns-in_err-checked_mul : goal.returns-in_err-checked_mul
returns-in_err-checked_mul c = λ n few e.
    let word = c.args.word.now in
    let i = c.loop-digit.digit-index in
    let numeral = decimal_is_IsNumeral n few in
    let digit : is_ascii_digit (get_or word i 0) ≡ true =
    digit_at word (subst (AllDigits 10) (sym e) numeral.0.1) i c.loop-digit-test.true in
    let more = c.loop-digit.size * 10 + (get_or word i 0 - 48) in
    let value : digits_value_after 10 more (drop (i + 1) word) ≡ n =
    sym (value_more word i c.loop-digit.size c.loop-digit-test.true digit)
    ∙ c.loop-digit.invariant ∙ ap (digits_value 10) e ∙ numeral.1 in
    let grows = value_grows more (drop (i + 1) word) in
    absurd (omega (arith, few, value, grows, c.in_err-checked_mul.ensures))

pub returns-in_err-size : goal.returns-in_err-size
returns-in_err-size c = λ n few e.
    let word = c.args.word.now in
    let i = c.loop-digit.digit-index in
    let numeral = decimal_is_IsNumeral n few in
    let digit : is_ascii_digit (get_or word i 0) ≡ true =
    digit_at word (subst (AllDigits 10) (sym e) numeral.0.1) i c.loop-digit-test.true in
    let more = c.loop-digit.size * 10 + (get_or word i 0 - 48) in
    let value : digits_value_after 10 more (drop (i + 1) word) ≡ n =
    sym (value_more word i c.loop-digit.size c.loop-digit-test.true digit)
    ∙ c.loop-digit.invariant ∙ ap (digits_value 10) e ∙ numeral.1 in
    let grows = value_grows more (drop (i + 1) word) in
    absurd (omega (arith, few, value, grows, c.in_ok-checked_mul.ensures, c.in_err-size.ensures))

pub returns : goal.returns
returns c = λ n few e.
    let word = c.args.word.now in
    let size = c.loop-digit.size in
    let none = drop_all c.loop-digit.digit-index word (omega arith) in
    ap Some (sym (ap (digits_value_after 10 size) none)
    ∙ c.loop-digit.invariant ∙ ap (digits_value 10) e ∙ (decimal_is_IsNumeral n few).1)
