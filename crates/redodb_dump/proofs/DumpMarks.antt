-- The word of the rows of a target on a name says them.
use Rattle.std.proofs.Common.{◌≡◌, ℕ, ◌<◌, ◌≤◌, ◌^◌, Bool, true, false, ◌&&◌, List, [], ◌∷◌, ◌++◌, length, get_or, drop, Option, Some, None, IfSome, refl, sym, ap, ◌∙◌, subst, arith, if◌then◌else◌, length-append}
use Rattle.std.specs.Prelude.{◌==◌, codes, decimal}
use Rattle.std.specs.Char.{is_ascii_digit}
use Rattle.std.specs.List.{AllByRecursion}
use Rattle.std.specs.Str.Parse.{AllDigits, without_leading_plus}
use Rattle.std.proofs.lemmas.Bool.Decides.{nat_tests}
use Rattle.std.proofs.lemmas.Fmt.{decimal_is_IsNumeral_wide}
use Rattle.std.proofs.lemmas.List.{append_cancel_left}
use Rattle.std.proofs.lemmas.List.Folds.{list_all-append}
use Rattle.std.proofs.lemmas.Slice.Eq.{bytes_eq-Decides}
use Rattle.std.proofs.lemmas.Str.Parse.{digit_from_value, without_leading_plus_none}
use Rattle.hex.specs.Hex.{encode_lower, lower_digits}
use Rattle.hex.proofs.HexLemmas.{length-encode_with}
use Rattle.redodb_model.specs.Names.{Text, is_visible}
use Rattle.redodb_model.specs.State.{Mark, File, Digest, Builds, Pending, Absent}
use Rattle.redodb_text.proofs.ReplyWords.{digest_is_visible}
use Rattle.redodb_text.proofs.Spaced.{IsVisible, stamp_is_visible}
use Rattle.redodb_dump.specs.Dumps.{HasMarkForm, same_mark, mark_word, change_word, created_word, row_words}
use Rattle.redodb_dump.specs.Support.Read.{HasNoDigit}
use Rattle.redodb_dump.proofs.DumpWords.{IsWord, number_is_short, number_is_word, same_number, first_is_digit, stamp_is_short, same_encoded}

-- marks

equal_numbers : (m n : ℕ) → (m == n) ≡ true → m ≡ n
equal_numbers m n e = grind (arith, nat_tests)

pub same_mark_is : (a b : Mark) → same_mark a b ≡ true → a ≡ b
same_mark_is (File s) (File r) e = ap File ((bytes_eq-Decides s r).0 e)
same_mark_is (Digest d) (Digest c) e = ap Digest ((bytes_eq-Decides d c).0 e)
same_mark_is (Builds m) (Builds n) e = ap Builds (equal_numbers m n e)
same_mark_is Pending Pending e = refl
same_mark_is Absent Absent e = refl
same_mark_is a b e = absurd cc

-- visible, and so short that a number fits before it
abbrev IsPart : Text → Type 0
IsPart word = IsVisible word × (length word ≤ 65)

mark_is_part : (mark : Mark) → HasMarkForm mark → IsPart (mark_word mark)
mark_is_part (File stamp) is =
    (stamp_is_visible stamp is, let short = stamp_is_short stamp is in omega arith)
mark_is_part (Digest digest) is = (
  digest_is_visible digest is,
  omega (arith, length-encode_with lower_digits digest, is.0),
)
mark_is_part (Builds builds) is =
    let few : builds < 10 ^ 64 = omega (arith, is) in
    ((number_is_word builds few).0, let short = number_is_short builds few in omega arith)
mark_is_part Pending is = (refl, omega arith)
mark_is_part Absent is = (refl, omega arith)

same_kept : (a b : Mark) → HasMarkForm a → HasMarkForm b → mark_word a ≡ mark_word b → a ≡ b
same_kept (File s) (File r) p q e = ap (λ w. File (drop 1 w)) e
same_kept (Digest d) (Digest c) p q e = ap Digest (same_encoded d c p q (ap (drop 1) e))
same_kept (Builds m) (Builds n) p q e =
    ap Builds (same_number m n (omega (arith, p)) (omega (arith, q)) (ap (drop 1) e))
same_kept Pending Pending p q e = refl
same_kept Absent Absent p q e = refl
same_kept a b p q e = absurd (omega (arith, ap (λ w. get_or w 0 0) e))

-- the first byte of a mark's word is a letter
letter_of : (mark : Mark) → (c : ℕ) × (w : Text) × (mark_word mark ≡ c ∷ w) × (97 ≤ c)
letter_of (File stamp) = (102, stamp, refl, omega arith)
letter_of (Digest digest) = (100, encode_lower digest, refl, omega arith)
letter_of (Builds builds) = (98, decimal builds, refl, omega arith)
letter_of Pending = (112, [], refl, omega arith)
letter_of Absent = (97, [], refl, omega arith)

kept_is_no_equals : (mark : Mark) → mark_word mark ≡ codes "=" → ⊥
kept_is_no_equals mark e =
    let letter = letter_of mark in
    omega (arith, ap (λ w. get_or w 0 0) (sym letter.2 ∙ e), letter.3)

kept_is_not_empty : (mark : Mark) → mark_word mark ≡ [] → ⊥
kept_is_not_empty mark e = omega (arith, ap length (sym (letter_of mark).2 ∙ e))

-- change rows

abbrev pub IsRow : Option Mark → Type 0
IsRow change = IfSome change HasMarkForm

abbrev marked : Bool → Mark → Text
marked b mark = if b then codes "=" else mark_word mark

change_is_part : (now : Mark) (change : Option Mark) → IsRow change
    → IsPart (change_word now change)
change_is_part now None is = (refl, omega arith)
change_is_part now (Some mark) is = by (same_mark mark now)
  where
    by : (b : Bool) → IsPart (marked b mark)
    by true = (refl, omega arith)
    by false = mark_is_part mark is

marked_is_not_empty : (b : Bool) (mark : Mark) → marked b mark ≡ [] → ⊥
marked_is_not_empty true mark e = omega (arith, ap length e)
marked_is_not_empty false mark e = kept_is_not_empty mark e

same_marked : (now a b : Mark) → HasMarkForm a → HasMarkForm b
    → marked (same_mark a now) a ≡ marked (same_mark b now) b → a ≡ b
same_marked now a b p q e = by (same_mark a now) (same_mark b now) refl refl e
  where
    by : (x y : Bool) → same_mark a now ≡ x → same_mark b now ≡ y → marked x a ≡ marked y b → a ≡ b
    by true true one other e = same_mark_is a now one ∙ sym (same_mark_is b now other)
    by true false one other e = absurd (kept_is_no_equals b (sym e))
    by false true one other e = absurd (kept_is_no_equals a e)
    by false false one other e = same_kept a b p q e

same_change : (now : Mark) (a b : Option Mark) → IsRow a → IsRow b
    → change_word now a ≡ change_word now b → a ≡ b
same_change now None None p q e = refl
same_change now None (Some b) p q e = absurd (marked_is_not_empty (same_mark b now) b (sym e))
same_change now (Some a) None p q e = absurd (marked_is_not_empty (same_mark a now) a e)
same_change now (Some a) (Some b) p q e = ap Some (same_marked now a b p q e)

-- the number in a word of rows

abbrev digits_at : Text → Text
digits_at [] = []
digits_at (c ∷ word) = if is_ascii_digit c then c ∷ digits_at word else []

abbrev pub number_in : Text → Text
number_in word = digits_at (without_leading_plus word)

letter_is_no_digit : (c : ℕ) → 97 ≤ c → is_ascii_digit c ≡ false
letter_is_no_digit c h = grind (arith, nat_tests)

marked_has_no_digit : (b : Bool) (mark : Mark) → HasNoDigit (marked b mark)
marked_has_no_digit true mark = refl
marked_has_no_digit false mark =
    let letter = letter_of mark in
    subst HasNoDigit (sym letter.2) (letter_is_no_digit letter.0 letter.3)

pub change_has_no_digit : (now : Mark) (change : Option Mark) → HasNoDigit (change_word now change)
change_has_no_digit now None = tt
change_has_no_digit now (Some mark) = marked_has_no_digit (same_mark mark now) mark

pub is_digit : (c : ℕ) → (48 ≤ c) × (c ≤ 57) → is_ascii_digit c ≡ true
is_digit c h = grind (arith, nat_tests)

digits_before : (ds word : Text) → AllDigits 10 ds → HasNoDigit word → digits_at (ds ++ word) ≡ ds
digits_before [] [] all none = refl
digits_before [] (c ∷ word) all none = ap (λ b. if b then c ∷ digits_at word else []) none
digits_before (c ∷ ds) word all none =
    ap (λ b. if b then c ∷ digits_at (ds ++ word) else []) (is_digit c (digit_from_value c all.0))
    ∙ ap (λ w. c ∷ w) (digits_before ds word all.1 none)

-- a number has no plus before it
number_is_bare : (n : ℕ) (rest : Text) → n < 10 ^ 64
    → without_leading_plus (decimal n ++ rest) ≡ decimal n ++ rest
number_is_bare n rest small =
    without_leading_plus_none (decimal n ++ rest)
    (λ e. omega (arith, e, first_is_digit n rest small))

-- words of rows

abbrev row_word : ℕ → Mark → Option Mark → Bool → Text
row_word number now change created =
    created_word created ++ decimal number ++ change_word now change

number_of_row : (number : ℕ) (now : Mark) (change : Option Mark) (created : Bool)
    → number < 10 ^ 64 → number_in (row_word number now change created) ≡ decimal number
number_of_row number now change true small =
    digits_before (decimal number) (change_word now change)
    (decimal_is_IsNumeral_wide number small).0.1 (change_has_no_digit now change)
number_of_row number now change false small =
    ap digits_at (number_is_bare number (change_word now change) small)
    ∙ digits_before (decimal number) (change_word now change)
    (decimal_is_IsNumeral_wide number small).0.1 (change_has_no_digit now change)

visible_append : (x y : Text) → IsVisible x → IsVisible y → IsVisible (x ++ y)
visible_append x y p q = list_all-append is_visible x y ∙ (λ i. p i && q i)

created_is_part : (created : Bool) → IsVisible (created_word created)
    × (length (created_word created) ≤ 1)
created_is_part true = (refl, omega arith)
created_is_part false = (refl, omega arith)

row_is_word : (number : ℕ) (now : Mark) (change : Option Mark) (created : Bool)
    → number < 10 ^ 64 → IsRow change → IsWord (row_word number now change created)
row_is_word number now change created small is =
    let plus = created_is_part created in
    let digits = number_is_word number small in
    let mark = change_is_part now change is in
    let front = created_word created ++ decimal number in (
      visible_append front (change_word now change)
          (visible_append (created_word created) (decimal number) plus.0 digits.0) mark.0,
      omega (
        arith,
        length-append front (change_word now change),
        length-append (created_word created) (decimal number),
        plus.1,
        number_is_short number small,
        mark.1,
      ),
    )

pub rows_are_words : (number : ℕ) (now : Mark) (change : Option Mark) (created : Bool)
    → number < 10 ^ 64 → IsRow change
    → AllByRecursion IsWord (row_words number now change created)
rows_are_words number now None false small is = tt
rows_are_words number now None true small is = (row_is_word number now None true small is, tt)
rows_are_words number now (Some mark) created small is =
    (row_is_word number now (Some mark) created small is, tt)

pub rows_are_numbered : (number : ℕ) (now : Mark) (change : Option Mark) (created : Bool)
    → number < 10 ^ 64
    → AllByRecursion (λ w. number_in w ≡ decimal number) (row_words number now change created)
rows_are_numbered number now None false small = tt
rows_are_numbered number now None true small = (number_of_row number now None true small, tt)
rows_are_numbered number now (Some mark) created small =
    (number_of_row number now (Some mark) created small, tt)

pub one_row : (number : ℕ) (now : Mark) (change : Option Mark) (created : Bool)
    → length (row_words number now change created) ≤ 1
one_row number now None false = omega arith
one_row number now change created = omega arith

-- the same rows
abbrev pub SameRows : Option Mark → Option Mark → Bool → Bool → Type 0
SameRows a b x y = (a ≡ b) × (x ≡ y)

same_word : (number : ℕ) (now : Mark) (a b : Option Mark) (x y : Bool) → number < 10 ^ 64
    → IsRow a → IsRow b → row_word number now a x ≡ row_word number now b y → SameRows a b x y
same_word number now a b true true small p q e = (
  same_change now a b p q (append_cancel_left (decimal number) (change_word now a)
      (change_word now b) (ap (drop 1) e)),
  refl,
)
same_word number now a b false false small p q e = (
  same_change now a b p q (append_cancel_left (decimal number) (change_word now a)
      (change_word now b) e),
  refl,
)
same_word number now a b true false small p q e =
    absurd (omega (
      arith,
      ap (λ w. get_or w 0 0) e,
      first_is_digit number (change_word now b) small,
    ))
same_word number now a b false true small p q e =
    absurd (omega (
      arith,
      ap (λ w. get_or w 0 0) e,
      first_is_digit number (change_word now a) small,
    ))

abbrev head_of : List Text → Text
head_of ws = get_or ws 0 []

pub same_rows : (number : ℕ) (now : Mark) (a b : Option Mark) (x y : Bool) → number < 10 ^ 64
    → IsRow a → IsRow b → row_words number now a x ≡ row_words number now b y → SameRows a b x y
same_rows number now None None false false small p q e = (refl, refl)
same_rows number now None None true true small p q e = (refl, refl)
same_rows number now None (Some b) true y small p q e =
    same_word number now None (Some b) true y small p q (ap head_of e)
same_rows number now (Some a) None x true small p q e =
    same_word number now (Some a) None x true small p q (ap head_of e)
same_rows number now (Some a) (Some b) x y small p q e =
    same_word number now (Some a) (Some b) x y small p q (ap head_of e)
same_rows number now a b x y small p q e = absurd (omega (arith, ap length e))
