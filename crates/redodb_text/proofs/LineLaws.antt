-- What is read as a line is a command line, and a command line is read.
use Rattle.std.proofs.Common.{◌≡◌, ◌≤◌, ◌+◌, ℕ, Bool, true, false, not, cond, List, [], ◌∷◌, length, Ok, refl, sym, ap, subst, ◌∙◌, arith, ltb, append-nil, length-append, ◌++◌, lit≤}
use Rattle.std.specs.List.{list_any}
use Rattle.std.proofs.lemmas.Bool.{le-ltb}
use Rattle.std.proofs.lemmas.Bool.Decides.{nat_tests}
use Rattle.redodb_names.specs.Names.{has, with_name}
use Rattle.redodb_model.specs.Names.{Text}
use Rattle.redodb_model.specs.Command.{Command, Stamp, names_in}
use Rattle.redodb_text.specs.declared.fault.LineFault.TheVariants.{LineTooLong, BadByte}
use Rattle.redodb_text.specs.Texts.{spaced, content_word, command_text_of}
use Rattle.redodb_text.specs.Grammar.{IsCommandLine, IsShort, IsSpelled, HasForm, with_names, AddsNames}
use Rattle.redodb_text.specs.Questions.{words_of, is_text_byte}
use Rattle.redodb_text.specs.Support.Reading.{line_in, words_in}
use Rattle.redodb_text.proofs.Steps.{unless_ok, same_given}
use Rattle.redodb_text.proofs.Spaced.{line_is_spaced, words_of-spaced, spaced_is_text}
use Rattle.redodb_text.proofs.Contents.{content_word_says}
use Rattle.redodb_text.proofs.FormsFound.{words_say}
use Rattle.redodb_text.proofs.FirstWords.{some_word}
use Rattle.redodb_text.proofs.FormsRead.{read_from_words, few_names}

abbrev is_bad : ℕ → Bool
is_bad b = not (is_text_byte b)

-- what is read is a command line, and its names are added
pub line_found : {most : ℕ} (names : List Text) (line : Text) (command : Command Text)
    (after : List Text)
    → length names ≤ most → line_in most names line ≡ Ok (command, after)
    → IsCommandLine line command × AddsNames most names (command ∷ []) after
unfolding line_in words_in
line_found {most} names line command after few e =
    let a = unless_ok (ltb 8192 (length line)) LineTooLong _ (command, after) e in
    let b = unless_ok (list_any is_bad line) BadByte _ (command, after) a.1 in
    let short : length line ≤ 8192 = grind (arith, nat_tests, a.0) in
    by short (words_of line) refl b.1
  where
    by : IsShort line → (words : List Text) → words_of line ≡ words → words_in most names words
        ≡ Ok (command, after)
        → IsCommandLine line command × AddsNames most names (command ∷ []) after
    by short [] split h = absurd cc
    by short (word ∷ args) split h =
        let says = words_say names word args command after few h in
        let spelled =
        subst (λ (l : Text). IsSpelled l command)
        (sym (line_is_spaced line word args split)) says.spelled in
        ((says.form, short, spelled), says.adds)

-- the words that a line is read as have no bad byte
pub good_line : {most : ℕ} (names : List Text) (line : Text) (command : Command Text)
    (after : List Text)
    → length names ≤ most → words_in most names (words_of line) ≡ Ok (command, after)
    → list_any is_bad line ≡ false
good_line {most} names line command after few e =
    let first = some_word line in
    let says =
    words_say names first.0 first.1 command after few
    (ap (words_in most names) (sym first.2) ∙ e) in
    let spelled =
    subst (λ (l : Text). IsSpelled l command)
    (sym (line_is_spaced line first.0 first.1 first.2)) says.spelled in
    let from = read_from_words names line command after says.form spelled says.adds in
    ap (list_any is_bad) from.text
    ∙ spaced_is_text from.word from.args from.visible.0 from.visible.1

pub line_read : {most : ℕ} (names : List Text) (line : Text) (command : Command Text)
    (after : List Text)
    → length names ≤ most → length line ≤ 8192
    → words_in most names (words_of line) ≡ Ok (command, after)
    → line_in most names line ≡ Ok (command, after)
unfolding line_in
line_read {most} names line command after few le e =
    let short : ltb 8192 (length line) ≡ false = le-ltb _ _ le in
    let good : list_any is_bad line ≡ false = good_line names line command after few e in
    rw (short, good) e

-- a command line whose names fit is read
pub line_only : {most : ℕ} (names : List Text) (line : Text) (command : Command Text)
    (after : List Text)
    → length names ≤ most → IsCommandLine line command → AddsNames most names (command ∷ []) after
    → line_in most names line ≡ Ok (command, after)
unfolding line_in
line_only {most} names line command after few is adds =
    let from = read_from_words names line command after is.0 is.2 adds in
    let text : line ≡ spaced from.word from.args = from.text in
    let short : ltb 8192 (length line) ≡ false = le-ltb _ _ is.1 in
    let good : list_any is_bad line ≡ false =
    ap (list_any is_bad) text ∙ spaced_is_text from.word from.args from.visible.0 from.visible.1 in
    let words : words_of line ≡ from.word ∷ from.args =
    ap words_of text ∙ words_of-spaced from.word from.args from.visible.0 from.visible.1 in
    rw (short, good, words) from.reads

length-with_name : (names : List Text) (t : Text) → length (with_name names t) ≤ length names + 1
length-with_name names t = by (has names t)
  where
    by : (b : Bool) → length (cond b names (names ++ t ∷ [])) ≤ length names + 1
    by true = omega arith
    by false = omega (arith, length-append names (t ∷ []))

length-with_names : (names ts : List Text) → length (with_names names ts) ≤ length names + length ts
length-with_names names [] = omega arith
length-with_names names (t ∷ ts) =
    omega (arith, length-with_names (with_name names t) ts, length-with_name names t)

-- the names of a command alone fit
fits_alone : (command : Command Text) → HasForm command
    → AddsNames 65536 [] (command ∷ []) (with_names [] (names_in command ++ []))
fits_alone command form = (
  refl,
  omega (
    arith,
    length-with_names [] (names_in command ++ []),
    ap length (append-nil (names_in command)),
    few_names command form,
  ),
)

-- the text of a command is one of its spellings
pub text_is_spelled : (command : Command Text) → HasForm command
    → IsSpelled (command_text_of command) command
text_is_spelled (Stamp t content) form =
    (content_word content, refl, content_word_says content form.1)
text_is_spelled command form = refl

-- and no byte of it is bad
pub command_is_text : (command : Command Text) → HasForm command
    → list_any is_bad (command_text_of command) ≡ false
command_is_text command form =
    let from =
    read_from_words [] (command_text_of command) command (with_names [] (names_in command ++ []))
    form (text_is_spelled command form) (fits_alone command form) in
    ap (list_any is_bad) from.text
    ∙ spaced_is_text from.word from.args from.visible.0 from.visible.1

-- a line is the line of at most one command
pub one_command : (line : Text) (a b : Command Text) → IsCommandLine line a → IsCommandLine line b
    → a ≡ b
one_command line a b is_a is_b =
    let first =
    line_only [] line a (with_names [] (names_in a ++ [])) (lit≤ tt) is_a (fits_alone a is_a.0) in
    let second =
    line_only [] line b (with_names [] (names_in b ++ [])) (lit≤ tt) is_b (fits_alone b is_b.0) in
    ap (λ (x : Command Text × List Text). x.0) (same_given _ _ (sym first ∙ second))
