-- Whether a text that is too long begins with a question's word is determined by its beginning.
use Rattle.std.proofs.Common.{◌≡◌, ◌<◌, ◌≤◌, List, [], ◌∷◌, ◌++◌, length, take, drop, Option, Some, None, refl, sym, ap, ◌∙◌, length-append, append_assoc, arith}
use Rattle.std.proofs.Math.Seq.{take-append_seam}
use Rattle.std.proofs.lemmas.List.{take-append-drop, take-append-le}
use Rattle.std.proofs.lemmas.List.Concat.{flat_map-cons}
use Rattle.std.proofs.lemmas.Slice.Eq.{bytes_eq-Decides}
use Rattle.std.specs.List.{flat_map}
use Rattle.std.specs.Prelude.{bytes_eq}
use Rattle.redodb_model.specs.Names.{Text}
use Rattle.redodb_text.specs.Texts.{after_space, spaced}
use Rattle.redodb_text.specs.Inquiries.{inquiry_word, inquiry_named, inquiry_in}
use Rattle.redodb_text.specs.Questions.{words_of}
use Rattle.redodb_text.specs.declared.inquiries.Inquiry.{Inquiry}
use Rattle.redodb_text.specs.declared.inquiries.Inquiry.TheVariants.{Why, Deps, Users, State}
use Rattle.redodb_text.proofs.FirstWords.{some_word}
use Rattle.redodb_text.proofs.Spaced.{line_is_spaced, words_of-first}
use Rattle.redodb_text.proofs.Steps.{found_passes}
use Rattle.redodb_live.proofs.OneAnswer.{asked_visible}

abbrev inquiries : List Inquiry
inquiries = Why ∷ Deps ∷ Users ∷ State ∷ []

-- a question's word is short and visible, and names the question
short_word : (inquiry : Inquiry) → length (inquiry_word inquiry) ≤ 5
short_word Why = omega arith
short_word inquiry = omega arith

named_by_word : (inquiry : Inquiry) → inquiry_named (inquiry_word inquiry) ≡ Some inquiry
named_by_word Why = refl
named_by_word inquiry = refl

word_is : (word : Text) (inquiry : Inquiry) → inquiry_named word ≡ Some inquiry
    → word ≡ inquiry_word inquiry
word_is word inquiry named =
    (bytes_eq-Decides word (inquiry_word inquiry)).0
    (found_passes (λ i. bytes_eq word (inquiry_word i)) inquiries inquiry named)

-- a text begins with what it and more begin with, if that is not longer
begins_with : (front rest text more : Text) → text ++ more ≡ front ++ rest
    → length front ≤ length text → text ≡ front ++ drop (length front) text
begins_with front rest text more e short =
    let n = length front in
    sym (take-append-drop n text)
    ∙ ap (λ (t : Text). t ++ drop n text)
    (sym (take-append-le n text more short) ∙ ap (take n) e ∙ take-append_seam front rest)

-- a long text that begins with a word has a space after it
space_after : (word : Text) (args : List Text) → length word < length (spaced word args)
    → (rest : Text) × (spaced word args ≡ word ++ 32 ∷ rest)
space_after word [] long = absurd (omega (arith, length-append word []))
space_after word (arg ∷ args) long = (
  arg ++ flat_map after_space args,
  ap (λ (t : Text). word ++ t) (flat_map-cons after_space arg args),
)

same_question : (text more : Text) (inquiry : Inquiry) → 8192 < length text
    → inquiry_in (words_of (text ++ more)) ≡ Some inquiry
    → inquiry_in (words_of text) ≡ Some inquiry
same_question text more inquiry long e =
    let (first, args, cut) = some_word (text ++ more) in
    let word = inquiry_word inquiry in
    let is_word : first ≡ word = word_is first inquiry (sym (ap inquiry_in cut) ∙ e) in
    let whole : text ++ more ≡ spaced word args =
    line_is_spaced (text ++ more) first args cut ∙ ap (λ (w : Text). spaced w args) is_word in
    let longer : length word < length (spaced word args) =
    omega (arith, ap length whole, length-append text more, short_word inquiry) in
    let (rest, parted) = space_after word args longer in
    let front : Text = word ++ 32 ∷ [] in
    let begins : text ≡ front ++ drop (length front) text =
    begins_with front rest text more
    (whole ∙ parted ∙ sym (append_assoc word (32 ∷ []) rest))
    (omega (arith, length-append word (32 ∷ []), short_word inquiry)) in
    let after = drop (length front) text in
    ap inquiry_in (ap words_of (begins ∙ append_assoc word (32 ∷ []) after)
    ∙ words_of-first word after (asked_visible inquiry))
    ∙ named_by_word inquiry

-- a long text that is no question is none with more
pub no_question_in_more : (text more : Text) → 8192 < length text
    → inquiry_in (words_of text) ≡ None → inquiry_in (words_of (text ++ more)) ≡ None
no_question_in_more text more long none = by (inquiry_in (words_of (text ++ more))) refl
  where
    by : (found : Option Inquiry) → inquiry_in (words_of (text ++ more)) ≡ found
        → inquiry_in (words_of (text ++ more)) ≡ None
    by None e = e
    by (Some inquiry) e =
        absurd (let same = sym none ∙ same_question text more inquiry long e in cc)
