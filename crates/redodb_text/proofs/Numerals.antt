-- Numbers that are read digit by digit.
use Rattle.std.proofs.Common.{◌≡◌, ◌≢◌, ℕ, zero, suc, ◌+◌, ◌-◌, ◌*◌, ◌<◌, ◌≤◌, ◌^◌, true, [], ◌∷◌, length, get_or, drop, sym, ap, ◌∙◌, arith, drop-cons, add-one, Option, Some, None}
use Rattle.std.specs.Prelude.{decimal, MatchOption}
use Rattle.std.specs.Char.{is_ascii_digit, digit_value}
use Rattle.std.specs.Str.{all_ascii_digits}
use Rattle.std.specs.Str.Parse.{digits_value, digits_value_after}
use Rattle.std.proofs.lemmas.Bool.Decides.{nat_tests}
use Rattle.std.proofs.lemmas.Fmt.{decimal_digit, first_decimal, digits_decimal, digits_value-decimal, decimal-digits_value, decimal_nonempty}
use Rattle.std.proofs.lemmas.Str.Parse.{IsNumeralModel, numerals_by_value, tells_all_ascii_digits}
use Rattle.redodb_model.specs.Names.{Text}

own : IsNumeralModel (λ word. all_ascii_digits word ≡ true) (digits_value 10)
own = numerals_by_value (λ word. all_ascii_digits word ≡ true) tells_all_ascii_digits

-- more digits make no number smaller
pub value_grows : (n : ℕ) (cs : Text) → n ≤ digits_value_after 10 n cs
value_grows n [] = omega arith
value_grows n (c ∷ cs) = omega (arith, value_grows (n * 10 + digit_value c) cs)

pub digit_is : (c : ℕ) → is_ascii_digit c ≡ true → digit_value c ≡ c - 48
digit_is c h = grind (arith, nat_tests)

-- one more digit
pub value_more : (word : Text) (i v : ℕ) → i < length word → is_ascii_digit (get_or word i 0) ≡ true
    → digits_value_after 10 v (drop i word)
    ≡ digits_value_after 10 (v * 10 + (get_or word i 0 - 48)) (drop (i + 1) word)
value_more word i v lt digit =
    ap (digits_value_after 10 v) (drop-cons word i 0 lt)
    ∙ (λ k. digits_value_after 10 (v * 10 + digit_is (get_or word i 0) digit k) (drop (suc i) word))
    ∙ ap (λ (n : ℕ). digits_value_after 10 (v * 10 + (get_or word i 0 - 48)) (drop n word))
    (sym (add-one i))

small : (n : ℕ) → n ≤ 4294967295 → n < 2 ^ 64
small n le = omega arith

-- what is printed is digits of this value
pub printed_digits : (n : ℕ) → n ≤ 4294967295 → all_ascii_digits (decimal n) ≡ true
printed_digits n le = digits_decimal own n (small n le)

pub printed_value : (n : ℕ) → n ≤ 4294967295 → digits_value 10 (decimal n) ≡ n
printed_value n le = digits_value-decimal own n (small n le)

-- it is 0, or does not begin with 0
pub printed_first : (n : ℕ) → n ≤ 4294967295 → 0 < n → 48 < get_or (decimal n) 0 0
printed_first n le some = first_decimal n some (small n le)

-- digits without a leading zero are printed so
pub printed_again : (word : Text) → 0 < length word → (get_or word 0 0 ≡ 48 → length word ≡ 1)
    → all_ascii_digits word ≡ true → digits_value 10 word ≤ 4294967295
    → word ≡ decimal (digits_value 10 word)
printed_again word long alone digits le =
    sym (decimal-digits_value own word digits long alone (small (digits_value 10 word) le))

pub printed_back : (word : Text) → 48 < get_or word 0 0 → all_ascii_digits word ≡ true
    → digits_value 10 word ≤ 4294967295 → word ≡ decimal (digits_value 10 word)
printed_back word first digits le =
    printed_again word (long word first) (λ e. absurd (omega (arith, e, first))) digits le
  where
    long : (w : Text) → 48 < get_or w 0 0 → 0 < length w
    long [] h = absurd (omega (arith, h))
    long (b ∷ bs) h = omega arith

-- what is printed is not empty, and begins with a zero only if it is that zero
pub printed_some : (n : ℕ) → n ≤ 4294967295 → 0 < length (decimal n)
printed_some n le = decimal_nonempty n (small n le)

pub printed_zero : (n : ℕ) → n ≤ 4294967295 → get_or (decimal n) 0 0 ≡ 48 → length (decimal n) ≡ 1
printed_zero zero le first = ap length (decimal_digit 0 (omega arith))
printed_zero (suc n) le first =
    absurd (omega (arith, first, printed_first (suc n) le (omega arith)))

-- so the value of digits is the number that is printed so, if there is one
pub read_as : (word : Text) (r : Option ℕ) → 0 < length word
    → (get_or word 0 0 ≡ 48 → length word ≡ 1)
    → MatchOption r (all_ascii_digits word ≡ true → ¬ (digits_value 10 word ≤ 4294967295))
    (λ n. (all_ascii_digits word ≡ true) × (n ≡ digits_value 10 word) × (n ≤ 4294967295))
    → MatchOption r ((n : ℕ) → n ≤ 4294967295 → word ≢ decimal n) (λ n. word ≡ decimal n)
read_as word None long alone fails = λ n le e.
    let digits : all_ascii_digits word ≡ true = ap all_ascii_digits e ∙ printed_digits n le in
    let value : digits_value 10 word ≡ n = ap (digits_value 10) e ∙ printed_value n le in
    fails digits (omega (arith, value, le))
read_as word (Some n) long alone is =
    printed_again word long alone is.0 (omega (arith, is.1, is.2)) ∙ ap decimal (sym is.1)
