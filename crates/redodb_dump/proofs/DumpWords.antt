-- The words of a dump are visible and short, and each says one thing.
use Rattle.std.proofs.Common.{◌≡◌, ℕ, ◌+◌, ◌<◌, ◌≤◌, ◌^◌, Bool, true, false, ◌&&◌, [], ◌∷◌, ◌++◌, length, get_or, drop, Option, Some, None, IfSome, refl, sym, ap, ◌∙◌, subst, arith, if◌then◌else◌}
use Rattle.std.specs.Prelude.{nat_le, not, codes, decimal, bytes_eq}
use Rattle.std.specs.List.{list_all}
use Rattle.std.specs.Option.{option_eq}
use Rattle.std.specs.Str.Parse.{AllDigits, digits_value}
use Rattle.std.proofs.lemmas.Bool.Decides.{nat_tests}
use Rattle.std.proofs.lemmas.Fmt.{decimal_is_IsNumeral_wide, length-decimal-le_wide}
use Rattle.std.proofs.lemmas.Slice.Eq.{bytes_eq-Decides}
use Rattle.std.proofs.lemmas.Str.Parse.{digit_from_value}
use Rattle.hex.specs.Hex.{encode_lower, lower_digits}
use Rattle.hex.proofs.HexLemmas.{length-encode_with}
use Rattle.redodb_names.specs.Names.{is_name, is_reserved}
use Rattle.redodb_model.specs.Names.{Text, is_visible}
use Rattle.redodb_model.specs.State.{TargetState, Idle, Building, Built, Failed}
use Rattle.redodb_commands.specs.Stamp.{is_stamp, is_placeholder}
use Rattle.redodb_text.specs.Texts.{stamp_word, digest_word}
use Rattle.redodb_text.specs.Replies.{IsDigest}
use Rattle.redodb_text.specs.Support.ReplyReading.{digest_in}
use Rattle.redodb_text.proofs.Steps.{both}
use Rattle.redodb_text.proofs.ReplyWords.{digest_read, digest_is_visible}
use Rattle.redodb_text.proofs.Spaced.{IsVisible, name_is_visible, stamp_is_visible}
use Rattle.redodb_live.specs.Answers.{flag_word, holder_word, stage_word}
use Rattle.redodb_live.proofs.OneAnswer.{stamp_is_not_none}
use Rattle.redodb_dump.specs.Dumps.{IsStampOrNone, done_word, lettered_word}
use Rattle.redodb_dump.specs.Support.Forms.{IsHeldBuilt, IsHolder}

-- a word that is visible and short
abbrev pub IsWord : Text → Type 0
IsWord word = IsVisible word × (length word ≤ 255)

-- numbers

digit_is_visible : (c : ℕ) → (48 ≤ c) × (c ≤ 57) → is_visible c ≡ true
digit_is_visible c h = grind (arith, nat_tests)

digits_visible : (w : Text) → AllDigits 10 w → IsVisible w
digits_visible [] h = refl
digits_visible (c ∷ cs) h =
    let first = digit_is_visible c (digit_from_value c h.0) in
    let others = digits_visible cs h.1 in
    λ i. first i && others i

pub number_is_short : (n : ℕ) → n < 10 ^ 64 → length (decimal n) ≤ 64
number_is_short n h = length-decimal-le_wide 64 n (omega arith) h h

pub number_is_word : (n : ℕ) → n < 10 ^ 64 → IsWord (decimal n)
number_is_word n h = (
  digits_visible (decimal n) (decimal_is_IsNumeral_wide n h).0.1,
  omega (arith, number_is_short n h),
)

pub same_number : (m n : ℕ) → m < 10 ^ 64 → n < 10 ^ 64 → decimal m ≡ decimal n → m ≡ n
same_number m n p q e =
    sym (decimal_is_IsNumeral_wide m p).1 ∙ ap (digits_value 10) e
    ∙ (decimal_is_IsNumeral_wide n q).1

-- a number begins with a digit
pub first_is_digit : (n : ℕ) (rest : Text) → n < 10 ^ 64 → 48 ≤ get_or (decimal n ++ rest) 0 0
first_is_digit n rest small =
    let is = (decimal_is_IsNumeral_wide n small).0 in
    by (decimal n) is.0 is.1
  where
    by : (ds : Text) → 0 < length ds → AllDigits 10 ds → 48 ≤ get_or (ds ++ rest) 0 0
    by [] some all = absurd (omega arith)
    by (d ∷ ds) some all = (digit_from_value d all.0).0

-- stamps

pub stamp_is_short : (t : Text) → is_stamp t ≡ true → length t ≤ 64
unfolding is_stamp
stamp_is_short t h =
    let least = nat_le 1 (length t) in
    let most = nat_le (length t) 64 in
    let short : most ≡ true =
    (both least most (both (least && most) (list_all is_visible t)
    (both (least && most && list_all is_visible t) (not (is_placeholder t)) h).0).0).1 in
    grind (arith, nat_tests)

pub stamp_word_is_word : (stamp : Option Text) → IsStampOrNone stamp → IsWord (stamp_word stamp)
stamp_word_is_word None is = (refl, omega arith)
stamp_word_is_word (Some s) is =
    (stamp_is_visible s is, let short = stamp_is_short s is in omega arith)

pub same_stamp : (a b : Option Text) → IsStampOrNone a → IsStampOrNone b
    → stamp_word a ≡ stamp_word b → a ≡ b
same_stamp None None p q e = refl
same_stamp None (Some s) p q e = absurd (stamp_is_not_none s q (sym e))
same_stamp (Some s) None p q e = absurd (stamp_is_not_none s p e)
same_stamp (Some s) (Some r) p q e = ap Some e

lettered_is_word : (stamp : Option Text) → IsStampOrNone stamp → IsWord (lettered_word stamp)
lettered_is_word None is = (refl, omega arith)
lettered_is_word (Some s) is =
    (stamp_is_visible s is, let short = stamp_is_short s is in omega arith)

pub same_lettered : (a b : Option Text) → lettered_word a ≡ lettered_word b → a ≡ b
same_lettered None None e = refl
same_lettered None (Some s) e = absurd (omega (arith, ap (λ w. get_or w 0 0) e))
same_lettered (Some s) None e = absurd (omega (arith, ap (λ w. get_or w 0 0) e))
same_lettered (Some s) (Some r) e = ap (λ w. Some (drop 1 w)) e

pub lettered_is_no_equals : (stamp : Option Text) → lettered_word stamp ≡ codes "=" → ⊥
lettered_is_no_equals None e = omega (arith, ap (λ w. get_or w 0 0) e)
lettered_is_no_equals (Some s) e = omega (arith, ap (λ w. get_or w 0 0) e)

pub same_option : (a b : Option Text) → option_eq bytes_eq a b ≡ true → a ≡ b
same_option None None e = refl
same_option None (Some s) e = absurd cc
same_option (Some s) None e = absurd cc
same_option (Some s) (Some r) e = ap Some ((bytes_eq-Decides s r).0 e)

pub done_is_word : (file done : Option Text) → IsStampOrNone done → IsWord (done_word file done)
done_is_word file done is = by (option_eq bytes_eq done file)
  where
    by : (b : Bool) → IsWord (if b then codes "=" else lettered_word done)
    by true = (refl, omega arith)
    by false = lettered_is_word done is

pub same_done : (file a b : Option Text) → done_word file a ≡ done_word file b → a ≡ b
same_done file a b e = by (option_eq bytes_eq a file) (option_eq bytes_eq b file) refl refl e
  where
    by : (p q : Bool) → option_eq bytes_eq a file ≡ p → option_eq bytes_eq b file ≡ q
        → (if p then codes "=" else lettered_word a) ≡ (if q then codes "=" else lettered_word b)
        → a ≡ b
    by true true one other e = same_option a file one ∙ sym (same_option b file other)
    by true false one other e = absurd (lettered_is_no_equals b (sym e))
    by false true one other e = absurd (lettered_is_no_equals a e)
    by false false one other e = same_lettered a b e

-- digests

pub encoded_is_word : (digest : Text) → IsDigest digest → IsWord (encode_lower digest)
encoded_is_word digest is = (
  digest_is_visible digest is,
  omega (arith, length-encode_with lower_digits digest, is.0),
)

pub same_encoded : (a b : Text) → IsDigest a → IsDigest b → encode_lower a ≡ encode_lower b → a ≡ b
same_encoded a b p q e =
    let same = sym (digest_read a p) ∙ ap digest_in e ∙ digest_read b q in
    cc

pub digest_is_word : (digest : Option Text) → IfSome digest IsDigest → IsWord (digest_word digest)
digest_is_word None is = (refl, omega arith)
digest_is_word (Some d) is = encoded_is_word d is

pub encoded_is_long : (digest : Text) → IsDigest digest → encode_lower digest ≡ codes "-" → ⊥
encoded_is_long digest is e =
    omega (arith, ap length e, length-encode_with lower_digits digest, is.0)

pub same_digest : (a b : Option Text) → IfSome a IsDigest → IfSome b IsDigest
    → digest_word a ≡ digest_word b → a ≡ b
same_digest None None p q e = refl
same_digest None (Some d) p q e = absurd (encoded_is_long d q (sym e))
same_digest (Some d) None p q e = absurd (encoded_is_long d p e)
same_digest (Some d) (Some c) p q e = ap Some (same_encoded d c p q e)

-- holders

pub holder_is_word : (holder : Option ℕ) → IsHolder holder → IsWord (holder_word holder)
holder_is_word None is = (refl, omega arith)
holder_is_word (Some s) is = number_is_word (s + 1) (omega (arith, is))

pub number_is_no_dash : (n : ℕ) → n < 10 ^ 64 → decimal n ≡ codes "-" → ⊥
number_is_no_dash n small e =
    let digit = subst (AllDigits 10) e (decimal_is_IsNumeral_wide n small).0.1 in
    omega (arith, digit_from_value 45 digit.0)

pub same_holder : (a b : Option ℕ) → IsHolder a → IsHolder b → holder_word a ≡ holder_word b → a ≡ b
same_holder None None p q e = refl
same_holder None (Some r) p q e =
    absurd (number_is_no_dash (r + 1) (omega (arith, q)) (sym e))
same_holder (Some s) None p q e = absurd (number_is_no_dash (s + 1) (omega (arith, p)) e)
same_holder (Some s) (Some r) p q e =
    let same : s + 1 ≡ r + 1 =
    same_number (s + 1) (r + 1) (omega (arith, p)) (omega (arith, q)) e in
    ap Some (omega (arith, same))

-- states

pub stage_is_word : (state : TargetState) → IsWord (stage_word state)
stage_is_word Idle = (refl, omega arith)
stage_is_word state = (refl, omega arith)

abbrev stage_for : Text → TargetState
stage_for word =
    if bytes_eq word (codes "idle") then Idle
    else if bytes_eq word (codes "built") then Built
    else Failed

pub same_stage : (a b : TargetState) (holder : Option ℕ) → IsHeldBuilt a holder
    → IsHeldBuilt b holder
    → stage_word a ≡ stage_word b → a ≡ b
same_stage (Building s) (Building r) holder p q e =
    let same : Some s ≡ Some r = sym (p s refl) ∙ q r refl in
    let number : s ≡ r = cc in
    ap Building number
same_stage (Building s) b holder p q e = absurd (omega (arith, ap length e))
same_stage a (Building r) holder p q e = absurd (omega (arith, ap length e))
same_stage a b holder p q e = ap stage_for e

pub flag_is_word : (flag : Bool) → IsWord (flag_word flag)
flag_is_word true = (refl, omega arith)
flag_is_word false = (refl, omega arith)

pub name_is_word : (t : Text) → is_name t ≡ true → IsWord t
unfolding is_name
name_is_word t h =
    let least = nat_le 1 (length t) in
    let most = nat_le (length t) 255 in
    let short : most ≡ true =
    (both least most (both (least && most) (list_all is_visible t)
    (both (least && most && list_all is_visible t) (not (is_reserved t)) h).0).0).1 in
    (name_is_visible t h, grind (arith, nat_tests))
