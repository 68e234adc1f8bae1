-- Words of replies: the numbers of grants, and digests.
use Rattle.std.proofs.Common.{◌≡◌, ◌≢◌, ℕ, zero, suc, ◌*◌, ◌^◌, ◌<◌, ◌≤◌, inl, inr, ◌⊎◌, Bool, true, false, cond, ◌&&◌, List, [], ◌∷◌, length, get_or, Result, Ok, Err, refl, sym, ap, subst, ◌∙◌, arith, ltb, leb, append-nil}
use Rattle.std.specs.Prelude.{bytes_eq, decimal}
use Rattle.std.specs.Str.{all_ascii_digits}
use Rattle.std.specs.Int.{IsInRange}
use Rattle.std.specs.Str.Parse.{AllDigits, digits_value}
use Rattle.std.proofs.lemmas.List.Elements.{recursion_from_All}
use Rattle.std.proofs.lemmas.Bool.Decides.{nat_tests}
use Rattle.std.proofs.lemmas.Slice.Eq.{bytes_eq-Decides}
use Rattle.std.proofs.lemmas.Fmt.{decimal_digit, decimal_is_IsNumeral}
use Rattle.std.proofs.lemmas.Str.Parse.{digit_from_value}
use Rattle.hex.specs.Hex.{encode_lower, decode_sized, is_hex_digit}
use Rattle.hex.specs.declared.error.FromHexError.{FromHexError}
use Rattle.hex.proofs.HexLemmas.{decode_of-ok, decode_of-encode_lower, decode_sized-ok, decode_sized-twice, decode_sized-encode_lower}
use Rattle.redodb_model.specs.Names.{Text, is_visible}
use Rattle.redodb_text.specs.declared.fault.LineFault.TheVariants.{WrongWords, BadHex}
use Rattle.redodb_text.specs.Replies.{IsGrant, IsDigest}
use Rattle.redodb_text.specs.Questions.{words_of}
use Rattle.redodb_text.specs.Support.ReplyReading.{one_word_in, grant_in, digest_in, printed_digest}
use Rattle.redodb_text.proofs.Contents.{bytes_by_place, bytes_one_by_one, digits_are_visible}
use Rattle.redodb_text.proofs.FirstWords.{not_none}
use Rattle.redodb_text.proofs.Numerals.{printed_digits, printed_value, printed_first, printed_back}
use Rattle.redodb_text.proofs.Spaced.{IsVisible, line_is_spaced, words_of-spaced}
use Rattle.redodb_text.proofs.Steps.{both, guard_ok}

not_zero : (word : Text) (n : ℕ) → 48 < get_or word 0 0 → decimal n ≡ word → 1 ≤ n
not_zero word zero first e =
    let digit : decimal 0 ≡ 48 ∷ [] = decimal_digit 0 (omega arith) in
    let same : 48 ≡ get_or word 0 0 = ap (λ (t : Text). get_or t 0 0) (sym digit ∙ e) in
    absurd (omega (arith, same, first))
not_zero word (suc n) first e = omega arith

-- what is read as a grant is its number as it is printed
pub grant_says : (word : Text) (g : ℕ) → grant_in word ≡ Ok g → IsGrant g × (word ≡ decimal g)
unfolding grant_in
grant_says word g e =
    let v = digits_value 10 word in
    let passed = guard_ok _ WrongWords v g e in
    let k = both _ (leb v 4294967295) passed.0 in
    let l = both (ltb 48 (get_or word 0 0)) (all_ascii_digits word) k.0 in
    let first : 48 < get_or word 0 0 = grind (arith, nat_tests, l.0) in
    let le : v ≤ 4294967295 = grind (arith, nat_tests, k.1) in
    let is : word ≡ decimal v = printed_back word first l.1 le in
    subst (λ (n : ℕ). IsGrant n × (word ≡ decimal n)) passed.1
    ((not_zero word v first (sym is), le), is)

-- and a printed number is read
pub grant_read : (g : ℕ) → IsGrant g → grant_in (decimal g) ≡ Ok g
unfolding grant_in
grant_read g is =
    let first : 48 < get_or (decimal g) 0 0 = printed_first g is.1 (omega (arith, is.0)) in
    let nonzero : ltb 48 (get_or (decimal g) 0 0) ≡ true = grind (arith, nat_tests, first) in
    let digits : all_ascii_digits (decimal g) ≡ true = printed_digits g is.1 in
    let value : digits_value 10 (decimal g) ≡ g = printed_value g is.1 in
    let le : leb g 4294967295 ≡ true = grind (arith, nat_tests, is.1) in
    rw (nonzero, digits, value, le) refl

digit_is_visible : (c : ℕ) → IsInRange 48 57 c → is_visible c ≡ true
digit_is_visible c h = grind (arith, nat_tests)

numeral_is_visible : (w : Text) → AllDigits 10 w → IsVisible w
numeral_is_visible [] h = refl
numeral_is_visible (c ∷ cs) h =
    let first = digit_is_visible c (digit_from_value c h.0) in
    let others = numeral_is_visible cs h.1 in
    λ i. first i && others i

pub decimal_is_visible : (n : ℕ) → n < 2 ^ 64 → IsVisible (decimal n)
decimal_is_visible n h = numeral_is_visible (decimal n) (decimal_is_IsNumeral n h).0.1

pub grant_is_visible : (g : ℕ) → IsGrant g → IsVisible (decimal g)
grant_is_visible g is = decimal_is_visible g (omega (arith, is.1))

-- a word is read as a grant, or its fault is this
grant_or_fault : (word : Text)
    → ((g : ℕ) × (grant_in word ≡ Ok g)) ⊎ (grant_in word ≡ Err WrongWords)
unfolding grant_in
grant_or_fault word =
    by (ltb 48 (get_or word 0 0) && all_ascii_digits word && leb (digits_value 10 word) 4294967295)
    (digits_value 10 word)
  where
    by : (b : Bool) (v : ℕ)
        → ((g : ℕ) × (cond b (Ok v) (Err WrongWords) ≡ Ok g))
        ⊎ (cond b (Ok v) (Err WrongWords) ≡ Err WrongWords)
    by true v = inl (v, refl)
    by false v = inr refl

-- a word that is no grant as it is printed
pub grant_refused : (word : Text) → ((g : ℕ) → IsGrant g → word ≢ decimal g)
    → grant_in word ≡ Err WrongWords
grant_refused word other = elim (grant_or_fault word) [
  | inl read ↦ let says = grant_says word read.0 read.1 in absurd (other read.0 says.0 says.1)
  | inr fault ↦ fault
]

-- a text of more than one word is no grant
pub one_grant : (text : Text) → one_word_in grant_in (words_of text) ≡ grant_in text
one_grant text = by (words_of text) refl
  where
    by : (words : List Text) → words_of text ≡ words
        → one_word_in grant_in (words_of text) ≡ grant_in text
    by [] e = absurd (not_none text e)
    by (w ∷ []) e =
        ap (one_word_in grant_in) e
        ∙ ap grant_in (sym (append-nil w) ∙ sym (line_is_spaced text w [] e))
    by (w ∷ v ∷ vs) e =
        ap (one_word_in grant_in) e ∙ sym (grant_refused text (λ g is same. more_words g is same))
      where
        more_words : (g : ℕ) → IsGrant g → text ≢ decimal g
        more_words g is same =
            let one : words_of text ≡ decimal g ∷ [] =
            ap words_of (same ∙ sym (append-nil (decimal g)))
            ∙ words_of-spaced (decimal g) [] (grant_is_visible g is) tt in
            let both : w ∷ v ∷ vs ≡ decimal g ∷ [] = sym e ∙ one in
            absurd cc

-- what is read as a digest are 20 bytes as they are printed
pub digest_says : (word digest : Text) → digest_in word ≡ Ok digest
    → IsDigest digest × (word ≡ encode_lower digest)
unfolding digest_in
digest_says word digest e = by (decode_sized word 20) refl e
  where
    by : (r : Result Text FromHexError) → decode_sized word 20 ≡ r
        → printed_digest word r ≡ Ok digest → IsDigest digest × (word ≡ encode_lower digest)
    by (Ok bytes) decoded h =
        let g = guard_ok (bytes_eq (encode_lower bytes) word) BadHex bytes digest h in
        let twice : length word ≡ 2 * 20 = decode_sized-ok word 20 bytes decoded in
        let ok = decode_of-ok word bytes (sym (decode_sized-twice word 20 twice) ∙ decoded) in
        let long : length bytes ≡ 20 = omega (arith, ok.2, twice) in
        let is : IsDigest bytes = (long, bytes_one_by_one bytes ok.3) in
        subst (λ (d : Text). IsDigest d × (word ≡ encode_lower d)) g.1 (
          is,
          sym ((bytes_eq-Decides (encode_lower bytes) word).0 g.0),
        )
    by (Err fault) decoded h = absurd cc

-- and printed bytes are read
pub digest_read : (digest : Text) → IsDigest digest → digest_in (encode_lower digest) ≡ Ok digest
unfolding digest_in
digest_read digest is =
    let decoded = decode_sized-encode_lower digest 20 is.0 (bytes_by_place digest is.1) in
    let same : bytes_eq (encode_lower digest) (encode_lower digest) ≡ true =
    (bytes_eq-Decides (encode_lower digest) (encode_lower digest)).1 refl in
    rw (decoded, same) refl

pub digest_is_visible : (digest : Text) → IsDigest digest → IsVisible (encode_lower digest)
digest_is_visible digest is =
    let digits =
    (decode_of-ok (encode_lower digest) digest
    (decode_of-encode_lower digest (bytes_by_place digest is.1))).1 in
    digits_are_visible (encode_lower digest)
    (recursion_from_All (λ c. is_hex_digit c ≡ true) (encode_lower digest) digits)
