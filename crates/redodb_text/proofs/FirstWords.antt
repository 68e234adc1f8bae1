-- A text by its first word.
use Rattle.std.proofs.Common.{◌≡◌, ◌≢◌, List, [], ◌∷◌, length, Option, Some, None, Err, refl, sym, ap, ◌∙◌, arith, ◌==◌, Bor, ℕ}
use Rattle.std.specs.Prelude.{bytes_eq}
use Rattle.std.proofs.lemmas.List.Splits.{length-slice_split}
use Rattle.std.proofs.lemmas.Slice.Eq.{bytes_eq-Decides}
use Rattle.redodb_model.specs.Names.{Text}
use Rattle.redodb_model.specs.Command.{Command}
use Rattle.redodb_text.specs.declared.fault.LineFault.TheVariants.{UnknownCommand, WrongWords}
use Rattle.redodb_commands.specs.declared.kind.Kind.{Kind}
use Rattle.redodb_text.specs.declared.reply_kind.ReplyKind.{ReplyKind}
use Rattle.redodb_text.specs.Texts.{word_of}
use Rattle.redodb_text.specs.Questions.{words_of, kind_named, all_kinds}
use Rattle.redodb_text.specs.Support.Reading.{words_after, no_words_in, form_in, words_in}
use Rattle.redodb_text.specs.Support.ReplyReading.{okay_in, names_in_words, some_names_in_words, reply_word, reply_kind_named, all_reply_kinds, reply_args_in, reply_words_in}
use Rattle.redodb_text.proofs.Steps.{found_passes}

-- a text has a first word
pub not_none : (text : Text) → words_of text ≢ []
not_none text none = absurd (omega (arith, length-slice_split (λ b. b == 32) text, ap length none))

pub some_word : (text : Text) → (word : Text) × (args : List Text) × (words_of text ≡ word ∷ args)
some_word text = by (words_of text) refl
  where
    by : (words : List Text) → words_of text ≡ words
        → (word : Text) × (args : List Text) × (words_of text ≡ word ∷ args)
    by [] e = absurd (not_none text e)
    by (word ∷ args) e = (word, args, e)

-- a text with words after its first has more than one
pub more_words : (text word rest : Text) → words_of text ≡ word ∷ words_of rest
    → length (words_of text) ≢ 1
more_words text word rest e one =
    absurd (omega (arith, one, ap length e, length-slice_split (λ b. b == 32) rest))

-- words, although there are to be none
pub no_words_some : (form : Command Text) (names : List Text) (text : Text)
    → no_words_in form names (words_of text) ≡ Err WrongWords
unfolding no_words_in
no_words_some form names text = let first = some_word text in ap (no_words_in form names) first.2

pub okay_some : (text : Text) → okay_in (words_of text) ≡ Err WrongWords
okay_some text = let first = some_word text in ap okay_in first.2

-- words, of which there are to be some
pub some_after : (args : Option (Bor Text)) (text : Bor Text) → args ≡ Some text
    → some_names_in_words (words_after args) ≡ names_in_words (words_after args)
some_after args text is =
    let first = some_word text.now in
    let words = ap words_after is ∙ first.2 in
    ap some_names_in_words words ∙ sym (ap names_in_words words)

-- the word is that of the kind that it names
pub word_is : (word : Text) (kind : Kind) → kind_named word ≡ Some kind → word ≡ word_of kind
word_is word kind named =
    (bytes_eq-Decides word (word_of kind)).0
    (found_passes (λ k. bytes_eq word (word_of k)) all_kinds kind named)

-- a text by the kind that its first word names
pub words_by_kind : (most : ℕ) (text word : Text) (args : List Text) (kind : Option Kind)
    → words_of text ≡ word ∷ args → kind_named word ≡ kind → (names : List Text)
    → words_in most names (words_of text) ≡ form_in most kind names args
unfolding words_in
words_by_kind most text word args kind e named names =
    ap (words_in most names) e ∙ ap (λ (k : Option Kind). form_in most k names args) named

pub no_kind : (most : ℕ) (text word : Text) (args : List Text) → words_of text ≡ word ∷ args
    → kind_named word ≡ None → (names : List Text)
    → words_in most names (words_of text) ≡ Err UnknownCommand
unfolding words_in form_in
no_kind most text word args e named names = words_by_kind _ text word args None e named names

-- the same for replies
pub reply_word_is : (word : Text) (kind : ReplyKind) → reply_kind_named word ≡ Some kind
    → word ≡ reply_word kind
reply_word_is word kind named =
    (bytes_eq-Decides word (reply_word kind)).0
    (found_passes (λ k. bytes_eq word (reply_word k)) all_reply_kinds kind named)

pub reply_by_kind : (text word : Text) (args : List Text) (kind : Option ReplyKind)
    → words_of text ≡ word ∷ args → reply_kind_named word ≡ kind
    → reply_words_in (words_of text) ≡ reply_args_in kind args
unfolding reply_words_in
reply_by_kind text word args kind e named =
    ap reply_words_in e ∙ ap (λ (k : Option ReplyKind). reply_args_in k args) named

pub no_reply_kind : (text word : Text) (args : List Text) → words_of text ≡ word ∷ args
    → reply_kind_named word ≡ None → reply_words_in (words_of text) ≡ Err WrongWords
unfolding reply_words_in reply_args_in
no_reply_kind text word args e named = reply_by_kind text word args None e named
