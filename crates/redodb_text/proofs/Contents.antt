-- Words of content, and the bytes that they stand for.
use Rattle.std.proofs.Common.{◌≡◌, ℕ, zero, suc, ◌<◌, Bool, true, false, cond, ◌&&◌, List, [], ◌∷◌, Result, Ok, refl, sym, ap, subst, ◌∙◌, arith, lit<, inl, inr}
use Rattle.std.specs.Prelude.{codes, bytes_eq, ◌≢◌}
use Rattle.std.specs.List.{AllByRecursion}
use Rattle.std.proofs.lemmas.List.Elements.{recursion_from_All}
use Rattle.std.proofs.lemmas.Bool.Decides.{nat_tests}
use Rattle.std.proofs.lemmas.Slice.Eq.{bytes_eq-Decides}
use Rattle.hex.specs.Hex.{IsBytes, decode_of, decode_pairs, is_hex_digit}
use Rattle.hex.specs.declared.error.FromHexError.{FromHexError}
use Rattle.hex.proofs.HexLemmas.{decode_of-ok, decode_of-encode_lower}
use Rattle.redodb_model.specs.Names.{Text, is_visible}
use Rattle.redodb_text.specs.declared.fault.LineFault.{LineFault}
use Rattle.redodb_text.specs.Texts.{content_word}
use Rattle.redodb_text.specs.Grammar.{IsContentWord}
use Rattle.redodb_text.specs.Support.Reading.{some_content, content_in}
use Rattle.redodb_text.proofs.Spaced.{IsVisible}
use Rattle.redodb_text.proofs.Steps.{same_given}

abbrev AreBytes : Text → Type 0
AreBytes content = AllByRecursion (λ b. b < 256) content

pub bytes_by_place : (xs : List ℕ) → AreBytes xs → IsBytes xs
bytes_by_place [] all i = lit< tt
bytes_by_place (x ∷ xs) all zero = all.0
bytes_by_place (x ∷ xs) all (suc i) = bytes_by_place xs all.1 i

pub bytes_one_by_one : (xs : List ℕ) → IsBytes xs → AreBytes xs
bytes_one_by_one [] each = tt
bytes_one_by_one (x ∷ xs) each = (each 0, bytes_one_by_one xs (λ i. each (suc i)))

-- the word is one for the content, which has bytes alone
pub record IsContent (word content : Text) : Type 0 where
  pub word_is : IsContentWord word content
  pub bytes : AllByRecursion (λ b. b < 256) content

abbrev content_read_as : Text → Result Text LineFault
content_read_as content = Ok content

some_read : (r : Result Text FromHexError) (content : Text) → some_content r ≡ Ok content
    → (content ≢ []) × (r ≡ Ok content)
some_read (Ok (b ∷ bs)) content e =
    let same = same_given (b ∷ bs) content e in
    (subst (λ (t : Text). t ≢ []) same (λ h. cc), λ i. Ok (same i))
some_read decoded content e = absurd cc

-- reading a word gives the content that it stands for
pub content_says : (word content : Text) → content_in word ≡ Ok content → IsContent word content
content_says word content e = by (bytes_eq word (codes "-")) refl e
  where
    by : (b : Bool) → bytes_eq word (codes "-") ≡ b
        → cond b (Ok []) (some_content (decode_of word)) ≡ Ok content → IsContent word content
    by true dash h =
        let same = same_given [] content h in
        record {
          word_is = inl ((bytes_eq-Decides word (codes "-")).0 dash, sym same);
          bytes = subst AreBytes same tt;
        }
    by false dash h =
        let some = some_read (decode_of word) content h in
        record {
          word_is = inr some;
          bytes = bytes_one_by_one content (decode_of-ok word content some.1).3;
        }

dash_decodes_to_nothing : (word content : Text) → decode_of word ≡ Ok content
    → bytes_eq word (codes "-") ≡ false
dash_decodes_to_nothing word content e = by (bytes_eq word (codes "-")) refl
  where
    by : (b : Bool) → bytes_eq word (codes "-") ≡ b → b ≡ false
    by true dash =
        let decoded : decode_of (codes "-") ≡ Ok content =
        subst (λ (w : Text). decode_of w ≡ Ok content)
        ((bytes_eq-Decides word (codes "-")).0 dash) e in
        absurd cc
    by false dash = refl

some_stays : (content : Text) → content ≢ [] → some_content (Ok content) ≡ Ok content
some_stays [] some = absurd (some refl)
some_stays (b ∷ bs) some = refl

-- a word is read as the content that it stands for
pub content_read : (word content : Text) → IsContentWord word content → content_in word ≡ Ok content
content_read word content is = elim is [
  | inl h ↦ ap content_in h.0 ∙ ap content_read_as (sym h.1)
  | inr h ↦
      let other = dash_decodes_to_nothing word content h.1 in
      rw (other, h.1) (some_stays content h.0)
]

digit_is_visible : (c : ℕ) → is_hex_digit c ≡ true → is_visible c ≡ true
digit_is_visible c h = grind (arith, nat_tests)

pub digits_are_visible : (word : Text) → AllByRecursion (λ c. is_hex_digit c ≡ true) word
    → IsVisible word
digits_are_visible [] all = refl
digits_are_visible (c ∷ cs) all =
    let first = digit_is_visible c all.0 in
    let others = digits_are_visible cs all.1 in
    λ i. first i && others i

pub content_is_visible : (word content : Text) → IsContentWord word content → IsVisible word
content_is_visible word content is = elim is [
  | inl h ↦ subst IsVisible (sym h.0) refl
  | inr h ↦ digits_are_visible word
      (recursion_from_All (λ c. is_hex_digit c ≡ true) word (decode_of-ok word content h.1).1)
]

-- the word that is printed stands for the content
pub content_word_says : (content : Text) → AllByRecursion (λ b. b < 256) content
    → IsContentWord (content_word content) content
content_word_says [] bytes = inl (refl, refl)
content_word_says (b ∷ bs) bytes =
    inr (λ e. cc, decode_of-encode_lower (b ∷ bs) (bytes_by_place (b ∷ bs) bytes))

-- the arrow of a history stands for no content
pub arrow_is_no_content : (content : Text) → IsContentWord (codes "=>") content → ⊥
unfolding decode_pairs
arrow_is_no_content content is = elim is [
  | inl h ↦ let same = h.0 in absurd cc
  | inr h ↦ let decoded : decode_of (codes "=>") ≡ Ok content = h.1 in absurd cc
]
