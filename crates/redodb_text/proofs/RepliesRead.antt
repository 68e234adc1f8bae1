-- The text of a reply is read as the reply.
use Rattle.std.proofs.Common.{◌≡◌, true, List, [], ◌∷◌, Some, Ok, Err, refl, ap, ◌∙◌, ℕ}
use Rattle.std.specs.Prelude.{decimal, ◌≢◌}
use Rattle.std.specs.List.{AllByRecursion, list_all}
use Rattle.hex.specs.Hex.{encode_lower}
use Rattle.redodb_names.specs.Names.{is_name}
use Rattle.redodb_model.specs.Names.{Text}
use Rattle.redodb_model.specs.Reply.{Refusal, Exists, Reply, Okay, Granted, Busy, Stale, Stamped, Ood, Targets, Sources, Refused}
use Rattle.redodb_text.specs.declared.fault.LineFault.{LineFault}
use Rattle.redodb_text.specs.declared.reply_kind.ReplyKind.{ReplyKind}
use Rattle.redodb_text.specs.declared.reply_kind.ReplyKind.TheVariants as kinds
use Rattle.redodb_text.specs.Texts.{spaced, refusal_words, reply_text_of}
use Rattle.redodb_text.specs.Questions.{words_of}
use Rattle.redodb_text.specs.Replies.{AreAllNames, HasRefusalForm, HasReplyForm, IsReplyText, AddsReplyNames, names_in_reply}
use Rattle.redodb_text.specs.Support.ReplyReading.{names_in_words, some_names_in_words, refusal_in_words, reply_word, reply_kind_named, reply_args_in, reply_words_in, reply_in}
use Rattle.redodb_text.proofs.NameLists.{all_names, names_are_visible, all_added-fits}
use Rattle.redodb_text.proofs.ReplyWords.{grant_read, grant_is_visible, digest_read, digest_is_visible}
use Rattle.redodb_text.proofs.Spaced.{IsVisible, name_is_visible, words_of-spaced}

-- the words of a reply's text after the first, and that they are read as the reply
pub record IsSaidBy (kind : ReplyKind) (args : List Text) (reply : Reply Text) : Type 0 where
  pub text : reply_text_of reply ≡ spaced (reply_word kind) args
  pub visible : AllByRecursion IsVisible args
  pub reads : reply_args_in (Some kind) args ≡ Ok reply

names_read : (ns : List Text) → AreAllNames ns → names_in_words ns ≡ Ok ns
names_read ns each =
    let all : list_all is_name ns ≡ true = all_names ns each in
    rw all refl

some_names_read : (ns : List Text) → ns ≢ [] → AreAllNames ns → some_names_in_words ns ≡ Ok ns
some_names_read [] some each = absurd (some refl)
some_names_read (n ∷ ns) some each = names_read (n ∷ ns) each

refusal_read : (refusal : Refusal Text) → HasRefusalForm refusal
    → refusal_in_words (refusal_words refusal) ≡ Ok refusal
refusal_read (Exists n) form = rw form refl
refusal_read refusal form = refl

refusal_is_visible : (refusal : Refusal Text) → HasRefusalForm refusal
    → AllByRecursion IsVisible (refusal_words refusal)
refusal_is_visible (Exists n) form = (refl, (name_is_visible n form, tt))
refusal_is_visible refusal form = (refl, tt)

abbrev pub reply_kind_for : Reply Text → ReplyKind
reply_kind_for Okay = kinds.Okay
reply_kind_for (Granted g) = kinds.Granted
reply_kind_for (Busy g) = kinds.Busy
reply_kind_for (Stale ns) = kinds.Stale
reply_kind_for (Stamped digest) = kinds.Stamped
reply_kind_for (Ood ns) = kinds.Ood
reply_kind_for (Targets ns) = kinds.Targets
reply_kind_for (Sources ns) = kinds.Sources
reply_kind_for (Refused refusal) = kinds.Refused

abbrev pub args_of : Reply Text → List Text
args_of Okay = []
args_of (Granted g) = decimal g ∷ []
args_of (Busy g) = decimal g ∷ []
args_of (Stale ns) = ns
args_of (Stamped digest) = encode_lower digest ∷ []
args_of (Ood ns) = ns
args_of (Targets ns) = ns
args_of (Sources ns) = ns
args_of (Refused refusal) = refusal_words refusal

-- each reply is said by its words
pub said : (reply : Reply Text) → HasReplyForm reply
    → IsSaidBy (reply_kind_for reply) (args_of reply) reply
unfolding reply_args_in
said Okay form = record { text = refl; visible = tt; reads = refl }
said (Granted g) form =
    let e = grant_read g form in
    record { text = refl; visible = (grant_is_visible g form, tt); reads = rw e refl }
said (Busy g) form =
    let e = grant_read g form in
    record { text = refl; visible = (grant_is_visible g form, tt); reads = rw e refl }
said (Stale ns) form =
    let e = some_names_read ns form.0 form.1 in
    record { text = refl; visible = names_are_visible ns form.1; reads = rw e refl }
said (Stamped digest) form =
    let e = digest_read digest form in
    record { text = refl; visible = (digest_is_visible digest form, tt); reads = rw e refl }
said (Ood ns) form =
    let e = names_read ns form in
    record { text = refl; visible = names_are_visible ns form; reads = rw e refl }
said (Targets ns) form =
    let e = names_read ns form in
    record { text = refl; visible = names_are_visible ns form; reads = rw e refl }
said (Sources ns) form =
    let e = names_read ns form in
    record { text = refl; visible = names_are_visible ns form; reads = rw e refl }
said (Refused refusal) form =
    let e = refusal_read refusal form in
    record { text = refl; visible = refusal_is_visible refusal form; reads = rw e refl }

pub word_is_visible : (kind : ReplyKind) → IsVisible (reply_word kind)
word_is_visible kinds.Okay = refl
word_is_visible kind = refl

-- a kind's word names it
kind_is_named : (kind : ReplyKind) → reply_kind_named (reply_word kind) ≡ Some kind
kind_is_named kinds.Okay = refl
kind_is_named kind = refl

-- the words of a reply's text are read as the reply
words_read : (text : Text) (reply : Reply Text) → IsReplyText text reply
    → reply_words_in (words_of text) ≡ Ok reply
unfolding reply_words_in
words_read text reply is =
    let from = said reply is.0 in
    let word = reply_word (reply_kind_for reply) in
    let words : words_of text ≡ word ∷ args_of reply =
    ap words_of (is.1 ∙ from.text)
    ∙ words_of-spaced word (args_of reply) (word_is_visible (reply_kind_for reply)) from.visible in
    let named = kind_is_named (reply_kind_for reply) in
    rw (words, named) from.reads

-- a reply's text whose names fit is read
pub reply_only : {most : ℕ} (names : List Text) (text : Text) (reply : Reply Text)
    (after : List Text)
    → IsReplyText text reply → AddsReplyNames most names reply after
    → reply_in most names text ≡ Ok (reply, after)
unfolding reply_in
reply_only {most} names text reply after is adds =
    let words = words_read text reply is in
    let fit = all_added-fits names (names_in_reply reply) after adds.0 adds.1 in
    rw (words, fit) refl

pub reply_has_no_fault : {most : ℕ} (names : List Text) (text : Text) (reply : Reply Text)
    (after : List Text)
    (fault : LineFault) → IsReplyText text reply → AddsReplyNames most names reply after
    → reply_in most names text ≡ Err fault → ⊥
reply_has_no_fault {most} names text reply after fault is adds e =
    let reads = reply_only names text reply after is adds in
    absurd cc

-- a text is the text of at most one reply
pub one_reply : (text : Text) (a b : Reply Text) → IsReplyText text a → IsReplyText text b → a ≡ b
one_reply text a b is_a is_b =
    let first = words_read text a is_a in
    let second = words_read text b is_b in
    cc
