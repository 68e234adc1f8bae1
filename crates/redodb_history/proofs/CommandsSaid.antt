-- Commands of a script: their words have the form of a command's, their texts are short, and their
-- names are names.
use Rattle.std.proofs.Common.{◌≡◌, List, [], ◌∷◌, ◌++◌, length, refl, sym, ap, ◌∙◌, inl, inr, arith, length-append}
use Rattle.std.specs.Prelude.{codes}
use Rattle.std.specs.List.{AllByRecursion}
use Rattle.hex.specs.Hex.{lower_digits}
use Rattle.hex.proofs.HexLemmas.{decode_of-ok, length-encode_with}
use Rattle.redodb_model.specs.Names.{Text}
use Rattle.redodb_model.specs.Command.{Command, Item, commands_in, File, IfChange, IfCreate, Stamp, Done, Ood, Targets, Sources, names_in}
use Rattle.redodb_text.specs.Texts.{after_space, spaced, content_word, command_text_of}
use Rattle.redodb_text.specs.Grammar.{HasForm, IsContentWord, IsSpelled, IsCommandLine, AreItemLines}
use Rattle.redodb_text.specs.Replies.{AreAllNames}
use Rattle.redodb_history.specs.Support.HistoryTexts.{IsSaid}

-- all spellings of a content have one length
length-content_word : (word content : Text) → IsContentWord word content
    → length word ≡ length (content_word content)
length-content_word word [] is = elim is [
  | inl dash ↦ ap length dash.0
  | inr digits ↦
      absurd (digits.0 refl)
]
length-content_word word (b ∷ bs) is = elim is [
  | inl dash ↦ absurd (let none = dash.1 in cc)
  | inr digits ↦ (decode_of-ok word (b ∷ bs) digits.1).2
      ∙ sym (length-encode_with lower_digits (b ∷ bs))
]

length-prefix : (prefix a b : Text) → length a ≡ length b → length (prefix ++ a)
    ≡ length (prefix ++ b)
length-prefix prefix a b same = omega (arith, length-append prefix a, length-append prefix b, same)

length-spaced : (first t a b : Text) → length a ≡ length b → length (spaced first (t ∷ a ∷ []))
    ≡ length (spaced first (t ∷ b ∷ []))
length-spaced first t a b same =
    let ends : length (after_space a ++ []) ≡ length (after_space b ++ []) =
    omega (arith, length-append (after_space a) [], length-append (after_space b) [], same) in
    length-prefix first (after_space t ++ (after_space a ++ []))
    (after_space t ++ (after_space b ++ []))
    (length-prefix (after_space t) (after_space a ++ []) (after_space b ++ []) ends)

-- a command's line is as long as its text
length-spelled : (line : Text) (command : Command Text) → IsSpelled line command
    → length line ≡ length (command_text_of command)
length-spelled line (Stamp t content) (word, e, is) = ap length e
    ∙ length-spaced (codes "stamp") t word (content_word content)
    (length-content_word word content is)
length-spelled line command e = ap length e

pub command_said : (line : Text) (command : Command Text)
    → IsCommandLine line command → IsSaid command
command_said line command (form, short, spelled) =
    (form, let same = length-spelled line command spelled in omega (arith, short))

pub commands_said : (lines : List Text) (items : List (Item Text))
    → AreItemLines lines items → AllByRecursion IsSaid (commands_in items)
commands_said [] [] are = tt
commands_said (line ∷ lines) (item ∷ items) are =
    (command_said are.0.said item.command are.0.command, commands_said lines items are.1)
commands_said lines items are = absurd are

-- each of a command's names is one
pub form_has_names : (command : Command Text) → HasForm command → AreAllNames (names_in command)
form_has_names (File n stamp) form = (form.0, tt)
form_has_names (IfChange t ns) form = (form.0, form.1.each)
form_has_names (IfCreate t ns) form = (form.0, form.1.each)
form_has_names (Stamp t content) form = (form.0, tt)
form_has_names (Done t stamp) form = (form.0, tt)
form_has_names Ood form = tt
form_has_names Targets form = tt
form_has_names Sources form = tt
form_has_names command form = (form, tt)
