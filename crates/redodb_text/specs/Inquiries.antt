-- Questions about a name: their texts, and the faults of a line whose first word is a question's.
use Rattle.std.specs.Prelude.{List, [], ◌∷◌, drop, length, Option, None, not, ◌==◌, bytes_eq, codes, find, is_some, if◌then◌else◌, ℕ}
use Rattle.redodb_model.specs.Names.{Text}
use Rattle.redodb_text.specs.declared.fault.LineFault.{LineFault}
use Rattle.redodb_text.specs.declared.fault.LineFault.TheVariants.{LineTooLong, BadByte, WrongWords}
use Rattle.redodb_text.specs.declared.inquiries.Inquiry.{Inquiry}
use Rattle.redodb_text.specs.declared.inquiries.Inquiry.TheVariants.{Why, Deps, Users, State}
use Rattle.redodb_text.specs.Texts.{spaced}
use Rattle.redodb_text.specs.Questions.{first_yes, is_too_long, has_bad_byte, words_of, word_questions, a_name, line_fault}

-- the question's word
abbrev pub inquiry_word : Inquiry → Text
inquiry_word Why = codes "why"
inquiry_word Deps = codes "deps"
inquiry_word Users = codes "users"
inquiry_word State = codes "state"

-- that word, a space and the name
abbrev pub inquiry_text_of : Inquiry → Text → Text
inquiry_text_of inquiry name = spaced (inquiry_word inquiry) (name ∷ [])

-- the question of a word
abbrev pub inquiry_named : Text → Option Inquiry
inquiry_named word =
    find (λ inquiry. bytes_eq word (inquiry_word inquiry)) (Why ∷ Deps ∷ Users ∷ State ∷ [])

-- the question of words, by the first of them
abbrev pub inquiry_in : List Text → Option Inquiry
inquiry_in [] = None
inquiry_in (word ∷ words) = inquiry_named word

-- the fault of a question: it is too long, has a bad byte, does not have one more word, or that is
-- no name
unfoldable pub inquiry_fault : Text → Option LineFault
inquiry_fault line =
    let words = drop 1 (words_of line) in
    first_yes ((is_too_long line, LineTooLong) ∷ (has_bad_byte line, BadByte)
    ∷ (not (length words == 1), WrongWords) ∷ word_questions (a_name ∷ []) words)

-- the fault of a question, else of a command
abbrev pub asked_fault : ℕ → List Text → Text → Option LineFault
asked_fault most names line =
    if is_some (inquiry_in (words_of line)) then inquiry_fault line else line_fault most names line
