-- The steps of the private readers, which no public clause cites: the result of each, or its fault
-- if it fails.
use Rattle.std.specs.Prelude.{◌≡◌, ◌⊎◌, ◌<◌, ℕ, List, [], ◌∷◌, ◌++◌, drop, length, Option, Some, None, Result, Ok, Err, not, nat_lt, nat_le, ◌==◌, if◌then◌else◌, codes, bytes_eq, slice_get, true, false, ⊤}
use Rattle.std.specs.Borrow.{Bor}
use Rattle.std.specs.List.{list_all}
use Rattle.hex.specs.Hex.{decode_of}
use Rattle.hex.specs.declared.error.FromHexError.{FromHexError}
use Rattle.redodb_names.specs.Names.{is_name, has}
use Rattle.redodb_model.specs.Names.{Text, text_at}
use Rattle.redodb_model.specs.Command.{Command, Item, File, Gone, Lock, Unlock, Start, IfChange, IfCreate, Always, Stamp, Done, Failed, Ood, Targets, Sources}
use Rattle.redodb_commands.specs.declared.kind.Kind.{Kind}
use Rattle.redodb_commands.specs.declared.kind.Kind.TheVariants as kinds
use Rattle.redodb_commands.specs.Stamp.{is_stamp}
use Rattle.redodb_text.specs.Grammar.{with_names, is_skipped}
use Rattle.redodb_text.specs.Questions.{kind_named, words_of, has_bad_byte, is_guarded, unguarded}
use Rattle.redodb_text.specs.declared.fault.LineFault.{LineFault}
use Rattle.redodb_text.specs.declared.fault.LineFault.TheVariants.{LineTooLong, BadByte, UnknownCommand, WrongWords, BadName, BadStamp, BadHex, TooManyLines, TooManyNames}
use Rattle.redodb_text.specs.declared.fault.Unread.{Unread}
use Rattle.redodb_text.specs.declared.fault.Unread.TheVariants as unread
use Rattle.redodb_text.specs.Support.Faults.{AddsPrefix}

infixl 10 ◌>>=◌
abbrev pub ◌>>=◌ : {A B : Type 0} → Result A LineFault → (A → Result B LineFault)
    → Result B LineFault
(Ok x) >>= f = f x
(Err e) >>= f = Err e

abbrev pub name_in : Text → Result Text LineFault
name_in word = if is_name word then Ok word else Err BadName

abbrev pub file_stamp_in : Text → Result Text LineFault
file_stamp_in word = if is_stamp word then Ok word else Err BadStamp

-- "-" is no stamp
abbrev pub file_stamp_or_none_in : Text → Result (Option Text) LineFault
file_stamp_or_none_in word =
    if bytes_eq word (codes "-") then Ok None else (file_stamp_in word >>= λ s. Ok (Some s))

-- decoded bytes, at least one
abbrev pub some_content : Result Text FromHexError → Result Text LineFault
some_content (Ok (b ∷ bs)) = Ok (b ∷ bs)
some_content decoded = Err BadHex

-- "-" is empty content
abbrev pub content_in : Text → Result Text LineFault
content_in word = if bytes_eq word (codes "-") then Ok [] else some_content (decode_of word)

-- the names with this one, if it is known or fits
abbrev pub added : ℕ → List Text → Text → Result (List Text) LineFault
added most names text =
    if has names text then Ok names
    else (if length names == most then Err TooManyNames else Ok (names ++ text ∷ []))

-- the text is a name, and this is its number
pub record IsNumbered (names : List Text) (text : Text) (number : ℕ) : Type 0 where
  pub at : slice_get names number ≡ Some text
  pub name : is_name text ≡ true

-- a command, and the names after it
abbrev pub Reading : Type 0
Reading = Result (Command Text × List Text) LineFault

-- a form of one name
unfoldable pub one_name_in : (most : ℕ) → (Text → Command Text) → List Text → List Text → Reading
one_name_in most form names (n ∷ []) = do
  name ← name_in n
  after ← added most names name
  Ok (form name, after)
one_name_in most form names args = Err WrongWords

-- a name, and after it 1 to 64 names
unfoldable pub target_and_names_in : List Text → Result (Text × List Text) LineFault
target_and_names_in (t ∷ n ∷ ns) =
    if nat_lt 64 (length (n ∷ ns)) then Err TooManyNames
    else (if not (list_all is_name (t ∷ n ∷ ns)) then Err BadName
    else Ok (t, n ∷ ns))
target_and_names_in args = Err WrongWords

-- the names with all of these, if they are not too many then
unfoldable pub all_added : ℕ → List Text → List Text → Result (List Text) LineFault
all_added most names ts =
    if nat_le (length (with_names names ts)) most then Ok (with_names names ts)
    else Err TooManyNames

-- a form of a target and of names
unfoldable pub names_form_in : (most : ℕ) → (Text → List Text → Command Text) → List Text
    → List Text → Reading
names_form_in most form names args = do
  words ← target_and_names_in args
  after ← all_added most names (words.0 ∷ words.1)
  Ok (form words.0 words.1, after)

-- a form of a name and of another word
unfoldable pub name_and_word_in : {X : Type 0} → (Text → Result X LineFault)
    → (Text → X → Command Text) → ℕ → List Text → List Text → Reading
name_and_word_in reader form most names (n ∷ w ∷ []) = do
  name ← name_in n
  x ← reader w
  after ← added most names name
  Ok (form name x, after)
name_and_word_in reader form most names args = Err WrongWords

abbrev pub file_in : ℕ → List Text → List Text → Reading
file_in = name_and_word_in file_stamp_in File

abbrev pub stamp_in : ℕ → List Text → List Text → Reading
stamp_in = name_and_word_in content_in Stamp

abbrev pub done_in : ℕ → List Text → List Text → Reading
done_in = name_and_word_in file_stamp_or_none_in Done

-- a form without words
unfoldable pub no_words_in : Command Text → List Text → List Text → Reading
no_words_in form names [] = Ok (form, names)
no_words_in form names (w ∷ ws) = Err WrongWords

-- the words after that of the kind, if there is one
unfoldable pub form_in : ℕ → Option Kind → List Text → List Text → Reading
form_in most None names args = Err UnknownCommand
form_in most (Some kinds.File) names args = file_in most names args
form_in most (Some kinds.Gone) names args = one_name_in most Gone names args
form_in most (Some kinds.Lock) names args = one_name_in most Lock names args
form_in most (Some kinds.Unlock) names args = one_name_in most Unlock names args
form_in most (Some kinds.Start) names args = one_name_in most Start names args
form_in most (Some kinds.IfChange) names args = names_form_in most IfChange names args
form_in most (Some kinds.IfCreate) names args = names_form_in most IfCreate names args
form_in most (Some kinds.Always) names args = one_name_in most Always names args
form_in most (Some kinds.Stamp) names args = stamp_in most names args
form_in most (Some kinds.Done) names args = done_in most names args
form_in most (Some kinds.Failed) names args = one_name_in most Failed names args
form_in most (Some kinds.Ood) names args = no_words_in Ood names args
form_in most (Some kinds.Targets) names args = no_words_in Targets names args
form_in most (Some kinds.Sources) names args = no_words_in Sources names args

-- by the first word
unfoldable pub words_in : ℕ → List Text → List Text → Reading
words_in most names [] = Err UnknownCommand
words_in most names (word ∷ args) = form_in most (kind_named word) names args

-- the words after a space, if there is one
abbrev pub words_after : Option (Bor Text) → List Text
words_after None = []
words_after (Some text) = words_of text.now

-- the first word of the text is the name with this number, and these words follow
pub record IsCutAt (names : List Text) (text : Text) (number : ℕ) (others : List Text)
    : Type 0 where
  pub words : words_of text ≡ text_at names number ∷ others
  pub below : number < length names

-- a line without its LF
unfoldable pub line_in : ℕ → List Text → Text → Reading
line_in most names line =
    if nat_lt 8192 (length line) then Err LineTooLong
    else (if has_bad_byte line then Err BadByte
    else words_in most names (words_of line))

-- the item of a command that this line says
abbrev pub item_in : Text → Command Text → Item Text
item_in line command = record { guarded = is_guarded line; command = command }

-- a line of a script, after this many items; it may be skipped
unfoldable pub script_line_in : ℕ → List Text → Text
    → Result (Option (Item Text) × List Text) LineFault
script_line_in count names line =
    if nat_lt 8192 (length line) then Err LineTooLong
    else (if is_skipped line then Ok (None, names)
    else (if count == 4096 then Err TooManyLines
    else (line_in 65536 names (unguarded line) >>= λ x. Ok (Some (item_in line x.0), x.1))))

-- what a private reader returned, seen by `view`, is what reading gives, unless memory ran out
abbrev pub Reads : {X Y : Type 0} → (X → Y) → Result X Unread → Result Y LineFault → Type 0
Reads view (Ok x) reading = reading ≡ Ok (view x)
Reads view (Err unread.Memory) reading = Unit {0}
Reads view (Err (unread.Fault fault)) reading = reading ≡ Err fault

-- a fault while names are added: they are too many
abbrev pub IsFull : ℕ → List Text → Unread → Type 0
IsFull most after unread.Memory = ⊤
IsFull most after (unread.Fault fault) = (fault ≡ TooManyNames) × (length after ≡ most)

-- an error leaves the names with some of these words, which are names
abbrev pub LeavesPrefix : ℕ → List Text → List Text → List Text → Unread → Type 0
LeavesPrefix most names words after why = AddsPrefix names words after × IsFull most after why

-- an error leaves the names, or all the words are names and some of them are added
abbrev pub LeavesSome : ℕ → List Text → List Text → List Text → Unread → Type 0
LeavesSome most names words after why =
    (after ≡ names) ⊎ ((list_all is_name words ≡ true) × LeavesPrefix most names words after why)

-- an error leaves the names, or the text has no bad byte and some of its words are added
abbrev pub LeavesWords : ℕ → List Text → Text → List Text → Unread → Type 0
LeavesWords most names text after why =
    (after ≡ names)
    ⊎ ((has_bad_byte text ≡ false) × LeavesPrefix most names (drop 1 (words_of text)) after why)
