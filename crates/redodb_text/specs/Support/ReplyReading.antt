-- Reading a reply by steps: the first step that its text fails is its fault, and its names are
-- added last.
use Rattle.std.specs.Prelude.{ℕ, List, [], ◌∷◌, Option, Some, None, Result, Ok, Err, not, ◌&&◌, nat_lt, nat_le, if◌then◌else◌, slice_index, codes, bytes_eq, find}
use Rattle.std.specs.List.{list_all}
use Rattle.std.specs.Str.{all_ascii_digits}
use Rattle.std.specs.Str.Parse.{digits_value}
use Rattle.hex.specs.Hex.{encode_lower, decode_sized}
use Rattle.hex.specs.declared.error.FromHexError.{FromHexError}
use Rattle.redodb_names.specs.Names.{is_name}
use Rattle.redodb_model.specs.Names.{Text}
use Rattle.redodb_model.specs.Reply.{Refusal, NotLocked, Building, NotBuilding, Itself, Exists, Reply, Okay, Granted, Busy, Stale, Stamped, Ood, Targets, Sources, Refused}
use Rattle.redodb_text.specs.declared.fault.LineFault.{LineFault}
use Rattle.redodb_text.specs.declared.fault.LineFault.TheVariants.{WrongWords, BadName, BadHex}
use Rattle.redodb_text.specs.declared.reply_kind.ReplyKind.{ReplyKind}
use Rattle.redodb_text.specs.declared.reply_kind.ReplyKind.TheVariants as kinds
use Rattle.redodb_text.specs.Questions.{words_of}
use Rattle.redodb_text.specs.Support.Reading.{◌>>=◌, name_in, all_added}
use Rattle.redodb_text.specs.Replies.{names_in_reply}

-- what the one word of the list is read as
abbrev pub one_word_in : {X : Type 0} → (Text → Result X LineFault) → List Text → Result X LineFault
one_word_in reader (w ∷ []) = reader w
one_word_in reader args = Err WrongWords

-- the number from 1 to 4,294,967,295 with these digits, without a sign or a leading zero
unfoldable pub grant_in : Text → Result ℕ LineFault
grant_in word =
    if nat_lt 48 (slice_index word 0) && all_ascii_digits word
    && nat_le (digits_value 10 word) 4294967295
    then Ok (digits_value 10 word)
    else Err WrongWords

-- decoded bytes, if the word is how they are printed
abbrev pub printed_digest : Text → Result Text FromHexError → Result Text LineFault
printed_digest word (Ok digest) =
    if bytes_eq (encode_lower digest) word then Ok digest else Err BadHex
printed_digest word (Err e) = Err BadHex

-- the 20 bytes with these digits
unfoldable pub digest_in : Text → Result Text LineFault
digest_in word = printed_digest word (decode_sized word 20)

abbrev pub names_in_words : List Text → Result (List Text) LineFault
names_in_words args = if not (list_all is_name args) then Err BadName else Ok args

abbrev pub some_names_in_words : List Text → Result (List Text) LineFault
some_names_in_words [] = Err WrongWords
some_names_in_words (w ∷ ws) = names_in_words (w ∷ ws)

abbrev pub plain_refusal_in : Text → Result (Refusal Text) LineFault
plain_refusal_in word =
    if bytes_eq word (codes "not-locked") then Ok NotLocked
    else (if bytes_eq word (codes "building") then Ok Building
    else (if bytes_eq word (codes "not-building") then Ok NotBuilding
    else (if bytes_eq word (codes "self") then Ok Itself
    else Err WrongWords)))

abbrev pub refusal_in_words : List Text → Result (Refusal Text) LineFault
refusal_in_words (w ∷ []) = plain_refusal_in w
refusal_in_words (w ∷ n ∷ []) =
    if bytes_eq w (codes "exists") then (name_in n >>= λ name. Ok (Exists name)) else Err WrongWords
refusal_in_words args = Err WrongWords

-- the word that a reply of the kind begins with
abbrev pub reply_word : ReplyKind → Text
reply_word kinds.Okay = codes "ok"
reply_word kinds.Granted = codes "granted"
reply_word kinds.Busy = codes "busy"
reply_word kinds.Stale = codes "stale"
reply_word kinds.Stamped = codes "stamped"
reply_word kinds.Ood = codes "ood"
reply_word kinds.Targets = codes "targets"
reply_word kinds.Sources = codes "sources"
reply_word kinds.Refused = codes "refused"

abbrev pub all_reply_kinds : List ReplyKind
all_reply_kinds =
    kinds.Okay ∷ kinds.Granted ∷ kinds.Busy ∷ kinds.Stale ∷ kinds.Stamped ∷ kinds.Ood
    ∷ kinds.Targets ∷ kinds.Sources ∷ kinds.Refused ∷ []

-- the kind with this word
abbrev pub reply_kind_named : Text → Option ReplyKind
reply_kind_named word = find (λ kind. bytes_eq word (reply_word kind)) all_reply_kinds

abbrev pub okay_in : List Text → Result (Reply Text) LineFault
okay_in [] = Ok Okay
okay_in (w ∷ ws) = Err WrongWords

-- the words after that of the kind, if there is one
unfoldable pub reply_args_in : Option ReplyKind → List Text → Result (Reply Text) LineFault
reply_args_in None args = Err WrongWords
reply_args_in (Some kinds.Okay) args = okay_in args
reply_args_in (Some kinds.Granted) args = one_word_in grant_in args >>= λ g. Ok (Granted g)
reply_args_in (Some kinds.Busy) args = one_word_in grant_in args >>= λ g. Ok (Busy g)
reply_args_in (Some kinds.Stale) args = some_names_in_words args >>= λ ns. Ok (Stale ns)
reply_args_in (Some kinds.Stamped) args =
    one_word_in digest_in args >>= λ digest. Ok (Stamped digest)
reply_args_in (Some kinds.Ood) args = names_in_words args >>= λ ns. Ok (Ood ns)
reply_args_in (Some kinds.Targets) args = names_in_words args >>= λ ns. Ok (Targets ns)
reply_args_in (Some kinds.Sources) args = names_in_words args >>= λ ns. Ok (Sources ns)
reply_args_in (Some kinds.Refused) args = refusal_in_words args >>= λ refusal. Ok (Refused refusal)

-- by the first word
unfoldable pub reply_words_in : List Text → Result (Reply Text) LineFault
reply_words_in [] = Err WrongWords
reply_words_in (word ∷ args) = reply_args_in (reply_kind_named word) args

-- what was read, and the names with its names
abbrev pub with_its_names : {X : Type 0} → ℕ → (X → List Text) → List Text → Result X LineFault
    → Result (X × List Text) LineFault
with_its_names most own names reading = do
  x ← reading
  after ← all_added most names (own x)
  Ok (x, after)

-- a text without LF
unfoldable pub reply_in : ℕ → List Text → Text → Result (Reply Text × List Text) LineFault
reply_in most names text = with_its_names most names_in_reply names (reply_words_in (words_of text))
