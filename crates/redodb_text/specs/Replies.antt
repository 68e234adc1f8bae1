-- Which texts are replies.
use Rattle.std.specs.Prelude.{◌≡◌, ◌≢◌, ℕ, ◌<◌, ◌≤◌, List, [], ◌∷◌, length, IsTrue, ⊤}
use Rattle.std.specs.List.{AllByRecursion}
use Rattle.redodb_names.specs.Names.{is_name}
pub use Rattle.redodb_names.specs.Names.{AreAllNames}
use Rattle.redodb_model.specs.Names.{Text}
use Rattle.redodb_model.specs.Reply.{Refusal, NotLocked, Building, NotBuilding, Itself, Exists, Reply, Okay, Granted, Busy, Stale, Stamped, Ood, Targets, Sources, Refused}
use Rattle.redodb_text.specs.Texts.{reply_text_of}
use Rattle.redodb_text.specs.Grammar.{with_names}

-- grants are counted from 1
abbrev pub IsGrant : ℕ → Type 0
IsGrant g = (1 ≤ g) × (g ≤ 4294967295)

-- 20 bytes
abbrev pub IsDigest : Text → Type 0
IsDigest digest = (length digest ≡ 20) × AllByRecursion (λ b. b < 256) digest

abbrev pub HasRefusalForm : Refusal Text → Type 0
HasRefusalForm NotLocked = ⊤
HasRefusalForm Building = ⊤
HasRefusalForm NotBuilding = ⊤
HasRefusalForm Itself = ⊤
HasRefusalForm (Exists n) = IsTrue (is_name n)

-- what is required of the words of a reply: lists may have names in any order, and repeated
abbrev pub HasReplyForm : Reply Text → Type 0
HasReplyForm Okay = ⊤
HasReplyForm (Granted g) = IsGrant g
HasReplyForm (Busy g) = IsGrant g
HasReplyForm (Stale ns) = (ns ≢ []) × AreAllNames ns
HasReplyForm (Stamped digest) = IsDigest digest
HasReplyForm (Ood ns) = AreAllNames ns
HasReplyForm (Targets ns) = AreAllNames ns
HasReplyForm (Sources ns) = AreAllNames ns
HasReplyForm (Refused refusal) = HasRefusalForm refusal

-- the text is the reply's
abbrev pub IsReplyText : Text → Reply Text → Type 0
IsReplyText text reply = HasReplyForm reply × (text ≡ reply_text_of reply)

abbrev pub names_in_refusal : Refusal Text → List Text
names_in_refusal NotLocked = []
names_in_refusal Building = []
names_in_refusal NotBuilding = []
names_in_refusal Itself = []
names_in_refusal (Exists n) = n ∷ []

-- its names, in the order in which they are written
abbrev pub names_in_reply : Reply Text → List Text
names_in_reply Okay = []
names_in_reply (Granted g) = []
names_in_reply (Busy g) = []
names_in_reply (Stale ns) = ns
names_in_reply (Stamped digest) = []
names_in_reply (Ood ns) = ns
names_in_reply (Targets ns) = ns
names_in_reply (Sources ns) = ns
names_in_reply (Refused refusal) = names_in_refusal refusal

-- after are the names with those of the reply, and not too many
abbrev pub AddsReplyNames : ℕ → List Text → Reply Text → List Text → Type 0
AddsReplyNames most names reply after =
    (after ≡ with_names names (names_in_reply reply)) × (length after ≤ most)
