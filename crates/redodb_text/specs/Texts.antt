-- The texts of commands and replies.
use Rattle.std.specs.Prelude.{ℕ, Bool, true, false, List, [], ◌∷◌, ◌++◌, Option, Some, None, codes, decimal}
use Rattle.std.specs.List.{flat_map}
use Rattle.hex.specs.Hex.{encode_lower}
use Rattle.redodb_model.specs.Names.{Text}
use Rattle.redodb_model.specs.Command.{Command, Item, File, Gone, Lock, Unlock, Start, IfChange, IfCreate, Always, Stamp, Done, Failed, Ood, Targets, Sources}
use Rattle.redodb_model.specs.Reply.{Refusal, NotLocked, Building, NotBuilding, Itself, Exists, Reply, Okay, Granted, Busy, Stale, Stamped, Refused}
use Rattle.redodb_model.specs.Reply as replies
use Rattle.redodb_commands.specs.declared.kind.Kind.{Kind}
use Rattle.redodb_commands.specs.declared.kind.Kind.TheVariants as kinds

-- a word with the space before it
abbrev pub after_space : Text → Text
after_space word = 32 ∷ word

-- the words, with single spaces between them
abbrev pub spaced : Text → List Text → Text
spaced first others = first ++ flat_map after_space others

-- "-" means no stamp
abbrev pub stamp_word : Option Text → Text
stamp_word None = codes "-"
stamp_word (Some stamp) = stamp

-- "-" means no digest
abbrev pub digest_word : Option (List ℕ) → Text
digest_word None = codes "-"
digest_word (Some digest) = encode_lower digest

-- "-" means empty content
abbrev pub content_word : Text → Text
content_word [] = codes "-"
content_word (b ∷ bs) = encode_lower (b ∷ bs)

-- the word of the command
abbrev pub word_of : Kind → Text
word_of kinds.File = codes "file"
word_of kinds.Gone = codes "gone"
word_of kinds.Lock = codes "lock"
word_of kinds.Unlock = codes "unlock"
word_of kinds.Start = codes "start"
word_of kinds.IfChange = codes "ifchange"
word_of kinds.IfCreate = codes "ifcreate"
word_of kinds.Always = codes "always"
word_of kinds.Stamp = codes "stamp"
word_of kinds.Done = codes "done"
word_of kinds.Failed = codes "failed"
word_of kinds.Ood = codes "ood"
word_of kinds.Targets = codes "targets"
word_of kinds.Sources = codes "sources"

abbrev pub command_text_of : Command Text → Text
command_text_of (File n stamp) = spaced (codes "file") (n ∷ stamp ∷ [])
command_text_of (Gone n) = spaced (codes "gone") (n ∷ [])
command_text_of (Lock t) = spaced (codes "lock") (t ∷ [])
command_text_of (Unlock t) = spaced (codes "unlock") (t ∷ [])
command_text_of (Start t) = spaced (codes "start") (t ∷ [])
command_text_of (IfChange t ns) = spaced (codes "ifchange") (t ∷ ns)
command_text_of (IfCreate t ns) = spaced (codes "ifcreate") (t ∷ ns)
command_text_of (Always t) = spaced (codes "always") (t ∷ [])
command_text_of (Stamp t content) = spaced (codes "stamp") (t ∷ content_word content ∷ [])
command_text_of (Done t stamp) = spaced (codes "done") (t ∷ stamp_word stamp ∷ [])
command_text_of (Failed t) = spaced (codes "failed") (t ∷ [])
command_text_of Ood = codes "ood"
command_text_of Targets = codes "targets"
command_text_of Sources = codes "sources"

-- a guarded line of a script begins with "? "
abbrev pub with_guard : Bool → Text → Text
with_guard true text = codes "? " ++ text
with_guard false text = text

-- the text of a line of a script
abbrev pub item_text_of : Item Text → Text
item_text_of item = with_guard item.guarded (command_text_of item.command)

abbrev pub refusal_words : Refusal Text → List Text
refusal_words NotLocked = codes "not-locked" ∷ []
refusal_words Building = codes "building" ∷ []
refusal_words NotBuilding = codes "not-building" ∷ []
refusal_words Itself = codes "self" ∷ []
refusal_words (Exists n) = codes "exists" ∷ n ∷ []

abbrev pub reply_text_of : Reply Text → Text
reply_text_of Okay = codes "ok"
reply_text_of (Granted g) = spaced (codes "granted") (decimal g ∷ [])
reply_text_of (Busy g) = spaced (codes "busy") (decimal g ∷ [])
reply_text_of (Stale ns) = spaced (codes "stale") ns
reply_text_of (Stamped digest) = spaced (codes "stamped") (encode_lower digest ∷ [])
reply_text_of (replies.Ood ns) = spaced (codes "ood") ns
reply_text_of (replies.Targets ns) = spaced (codes "targets") ns
reply_text_of (replies.Sources ns) = spaced (codes "sources") ns
reply_text_of (Refused refusal) = spaced (codes "refused") (refusal_words refusal)
