-- What is wrong with a line: a list of questions about it, each with its fault. The first question
-- that is answered by "yes" gives the line's fault.
use Rattle.std.specs.Prelude.{ℕ, ◌%◌, List, [], ◌∷◌, ◌++◌, map, drop, length, Option, Some, None}
use Rattle.std.specs.Prelude.{Bool, true, false, not, ◌&&◌, ◌||◌, ◌==◌, nat_lt, nat_le, if◌then◌else◌, codes, bytes_eq, find}
use Rattle.std.specs.List.{slice_split, list_any, list_all}
use Rattle.hex.specs.Hex.{is_hex_digit}
use Rattle.redodb_names.specs.Names.{is_name}
use Rattle.redodb_model.specs.Names.{Text}
use Rattle.redodb_commands.specs.declared.kind.Kind.{Kind}
use Rattle.redodb_commands.specs.declared.kind.Kind.TheVariants as kinds
use Rattle.redodb_text.specs.declared.fault.LineFault.{LineFault}
use Rattle.redodb_text.specs.declared.fault.LineFault.TheVariants.{LineTooLong, BadByte, UnknownCommand, WrongWords, BadName, BadStamp, BadHex, TooManyLines, TooManyNames}
use Rattle.redodb_commands.specs.Stamp.{is_stamp}
use Rattle.redodb_text.specs.Texts.{word_of}
use Rattle.redodb_text.specs.Grammar.{with_names, is_skipped}

-- a question is its answer, and its fault if that is yes
abbrev pub Question : Type 0
Question = Bool × LineFault

-- the fault of the first question that is answered by yes
abbrev pub first_yes : List Question → Option LineFault
first_yes [] = None
first_yes (question ∷ others) = if question.0 then Some question.1 else first_yes others

-- what a word has to be
pub data Wanted : Type 0 where
  a_name : Wanted
  a_stamp : Wanted
  a_stamp_or_none : Wanted
  some_content : Wanted

-- what the words after the first have to be, if that is of this kind, and these words follow
abbrev pub wanted : Kind → List Text → List Wanted
wanted kinds.File words = a_name ∷ a_stamp ∷ []
wanted kinds.Gone words = a_name ∷ []
wanted kinds.Lock words = a_name ∷ []
wanted kinds.Unlock words = a_name ∷ []
wanted kinds.Start words = a_name ∷ []
wanted kinds.IfChange words = a_name ∷ a_name ∷ map (λ word. a_name) (drop 2 words)
wanted kinds.IfCreate words = a_name ∷ a_name ∷ map (λ word. a_name) (drop 2 words)
wanted kinds.Always words = a_name ∷ []
wanted kinds.Stamp words = a_name ∷ some_content ∷ []
wanted kinds.Done words = a_name ∷ a_stamp_or_none ∷ []
wanted kinds.Failed words = a_name ∷ []
wanted kinds.Ood words = []
wanted kinds.Targets words = []
wanted kinds.Sources words = []

-- an even number of hexadecimal digits, at least two
abbrev pub are_digits : Text → Bool
are_digits word = nat_le 2 (length word) && length word % 2 == 0 && list_all is_hex_digit word

-- whether it is that; "-" means no stamp, and content of no bytes
abbrev pub is_it : Wanted → Text → Bool
is_it a_name word = is_name word
is_it a_stamp word = is_stamp word
is_it a_stamp_or_none word = bytes_eq word (codes "-") || is_stamp word
is_it some_content word = bytes_eq word (codes "-") || are_digits word

-- the fault of a word that is not
abbrev pub fault_of : Wanted → LineFault
fault_of a_name = BadName
fault_of a_stamp = BadStamp
fault_of a_stamp_or_none = BadStamp
fault_of some_content = BadHex

-- word by word from the left: is it not what it has to be?
abbrev pub word_questions : List Wanted → List Text → List Question
word_questions [] words = []
word_questions (want ∷ wants) [] = []
word_questions (want ∷ wants) (word ∷ words) =
    (not (is_it want word), fault_of want) ∷ word_questions wants words

-- the words that have to be names
abbrev pub names_among : List Wanted → List Text → List Text
names_among [] words = []
names_among (want ∷ wants) [] = []
names_among (a_name ∷ wants) (word ∷ words) = word ∷ names_among wants words
names_among (want ∷ wants) (word ∷ words) = names_among wants words

-- the kind of command with this word
abbrev pub all_kinds : List Kind
all_kinds =
    kinds.File ∷ kinds.Gone ∷ kinds.Lock ∷ kinds.Unlock ∷ kinds.Start ∷ kinds.IfChange
    ∷ kinds.IfCreate ∷ kinds.Always ∷ kinds.Stamp ∷ kinds.Done ∷ kinds.Failed ∷ kinds.Ood
    ∷ kinds.Targets ∷ kinds.Sources ∷ []

abbrev pub kind_named : Text → Option Kind
kind_named word = find (λ kind. bytes_eq word (word_of kind)) all_kinds

-- would there be more than `most` names with these?
abbrev pub is_full : ℕ → List Text → List Text → Bool
is_full most names own = nat_lt most (length (with_names names own))

-- Is the first word no command? Is the number of words another? Are there more than 64 names after
-- the target? Word by word, is it not what it has to be? Would there be too many names?
abbrev pub form_questions : ℕ → List Text → Option Kind → List Text → List Question
form_questions most names None words = (true, UnknownCommand) ∷ []
form_questions most names (Some kind) words =
    (not (length words == length (wanted kind words)), WrongWords)
    ∷ (nat_lt 64 (length (drop 1 words)), TooManyNames)
    ∷ word_questions (wanted kind words) words
    ++ (is_full most names (names_among (wanted kind words) words), TooManyNames) ∷ []

abbrev pub word_list_questions : ℕ → List Text → List Text → List Question
word_list_questions most names [] = (true, UnknownCommand) ∷ []
word_list_questions most names (word ∷ words) = form_questions most names (kind_named word) words

-- the pieces between single spaces
abbrev pub words_of : Text → List Text
words_of line = slice_split (λ b. b == 32) line

-- a visible byte or a space
abbrev pub is_text_byte : ℕ → Bool
is_text_byte b = nat_le 32 b && nat_le b 126

-- is there a byte that is neither?
abbrev pub has_bad_byte : Text → Bool
has_bad_byte line = list_any (λ b. not (is_text_byte b)) line

abbrev pub is_too_long : Text → Bool
is_too_long line = nat_lt 8192 (length line)

-- the questions about the bytes and words of a line; these are the names before it
abbrev pub text_questions : ℕ → List Text → Text → List Question
text_questions most names line =
    (has_bad_byte line, BadByte) ∷ word_list_questions most names (words_of line)

-- the fault of a line without its LF
unfoldable pub line_fault : ℕ → List Text → Text → Option LineFault
line_fault most names line = first_yes
    ((is_too_long line, LineTooLong) ∷ text_questions most names line)

-- does it begin with "? "?
abbrev pub is_guarded : Text → Bool
is_guarded [] = false
is_guarded (b ∷ []) = false
is_guarded (b ∷ c ∷ bs) = b == 63 && c == 32

-- the line without a leading "? "
abbrev pub unguarded : Text → Text
unguarded line = if is_guarded line then drop 2 line else line

-- the questions about a line of a session file after this many items, if it is not too long
abbrev pub file_line_questions : ℕ → List Text → Text → List Question
file_line_questions count names line =
    if is_skipped line then []
    else (count == 4096, TooManyLines) ∷ (has_bad_byte line, BadByte)
    ∷ word_list_questions 65536 names (words_of (unguarded line))

-- the fault of a line of a session file, after this many items
unfoldable pub file_line_fault : ℕ → List Text → Text → Option LineFault
file_line_fault count names line =
    first_yes ((is_too_long line, LineTooLong) ∷ file_line_questions count names line)
