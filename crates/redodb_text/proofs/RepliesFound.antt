-- What is read as a reply is what its text says.
use Rattle.std.proofs.Common.{◌≡◌, ℕ, Bool, true, false, cond, List, [], ◌∷◌, Option, Some, None, Result, Ok, Err, refl, sym, ap, subst, ◌∙◌, not}
use Rattle.std.specs.Prelude.{codes, bytes_eq, decimal, ◌≢◌}
use Rattle.std.specs.List.{list_all}
use Rattle.std.proofs.lemmas.Bool.{not-false}
use Rattle.std.proofs.lemmas.Slice.Eq.{bytes_eq-Decides}
use Rattle.hex.specs.Hex.{encode_lower}
use Rattle.redodb_names.specs.Names.{is_name}
use Rattle.redodb_model.specs.Names.{Text}
use Rattle.redodb_model.specs.Reply.{Refusal, NotLocked, Building, NotBuilding, Itself, Exists, Reply, Okay, Granted, Busy, Stale, Stamped, Ood, Targets, Sources, Refused}
use Rattle.redodb_text.specs.declared.fault.LineFault.{LineFault}
use Rattle.redodb_text.specs.declared.fault.LineFault.TheVariants.{WrongWords, BadName}
use Rattle.redodb_text.specs.declared.reply_kind.ReplyKind.{ReplyKind}
use Rattle.redodb_text.specs.declared.reply_kind.ReplyKind.TheVariants as kinds
use Rattle.redodb_text.specs.Texts.{spaced, refusal_words, reply_text_of}
use Rattle.redodb_text.specs.Questions.{words_of}
use Rattle.redodb_text.specs.Support.Reading.{◌>>=◌, name_in, all_added}
use Rattle.redodb_text.specs.Replies.{IsGrant, IsDigest, AreAllNames, HasRefusalForm, HasReplyForm, IsReplyText, AddsReplyNames, names_in_reply}
use Rattle.redodb_text.specs.Support.ReplyReading.{one_word_in, grant_in, digest_in, names_in_words, some_names_in_words, plain_refusal_in, refusal_in_words, okay_in, reply_word, reply_kind_named, reply_args_in, reply_words_in, reply_in}
use Rattle.redodb_text.proofs.Steps.{bind_ok, guard_ok, unless_ok}
use Rattle.redodb_text.proofs.FirstWords.{reply_word_is}
use Rattle.redodb_text.proofs.RepliesRead.{args_of}
use Rattle.redodb_text.proofs.NameLists.{each_name, all_added-is}
use Rattle.redodb_text.proofs.ReplyWords.{grant_says, digest_says}
use Rattle.redodb_text.proofs.Spaced.{line_is_spaced}

-- the words say the reply
record SaysReply (word : Text) (args : List Text) (reply : Reply Text) : Type 0 where
  form : HasReplyForm reply
  text : spaced word args ≡ reply_text_of reply

abbrev reply_read : Reply Text → Result (Reply Text) LineFault
reply_read reply = Ok reply

says_same : (word : Text) (args : List Text) (a b : Reply Text) → SaysReply word args a
    → reply_read a ≡ reply_read b → SaysReply word args b
says_same word args a b says e =
    let same : a ≡ b = cc in
    subst (SaysReply word args) same says

one_word_says : {X : Type 0} (reader : Text → Result X LineFault) (args : List Text) (x : X)
    → one_word_in reader args ≡ Ok x → (word : Text) × (args ≡ word ∷ []) × (reader word ≡ Ok x)
one_word_says reader (w ∷ []) x e = (w, refl, e)
one_word_says reader args x e = absurd cc

grant_args_say : (args : List Text) (g : ℕ) → one_word_in grant_in args ≡ Ok g
    → IsGrant g × (args ≡ decimal g ∷ [])
grant_args_say args g e =
    let a = one_word_says grant_in args g e in
    let b = grant_says a.0 g a.2 in
    (b.0, a.1 ∙ ap (λ (w : Text). w ∷ []) b.1)

digest_args_say : (args : List Text) (digest : Text) → one_word_in digest_in args ≡ Ok digest
    → IsDigest digest × (args ≡ encode_lower digest ∷ [])
digest_args_say args digest e =
    let a = one_word_says digest_in args digest e in
    let b = digest_says a.0 digest a.2 in
    (b.0, a.1 ∙ ap (λ (w : Text). w ∷ []) b.1)

abbrev list_read : List Text → Result (List Text) LineFault
list_read ns = Ok ns

names_say : (args ns : List Text) → names_in_words args ≡ Ok ns → AreAllNames ns × (args ≡ ns)
names_say args ns e =
    let a = unless_ok (not (list_all is_name args)) BadName (list_read args) ns e in
    let same : args ≡ ns = cc in
    (subst AreAllNames same (each_name args (not-false (list_all is_name args) a.0)), same)

some_names_say : (args ns : List Text) → some_names_in_words args ≡ Ok ns
    → ((ns ≢ []) × AreAllNames ns) × (args ≡ ns)
some_names_say [] ns e = absurd cc
some_names_say (w ∷ ws) ns e =
    let a = names_say (w ∷ ws) ns e in
    ((subst (λ (l : List Text). l ≢ []) a.1 (λ h. cc), a.0), a.1)

-- the words are those of the refusal
abbrev SaysRefusal : List Text → Refusal Text → Type 0
SaysRefusal args refusal = HasRefusalForm refusal × (args ≡ refusal_words refusal)

-- a word that is this refusal's, or the words after it
first_or : (word own : Text) (refusal : Refusal Text) (rest : Result (Refusal Text) LineFault)
    (read : Refusal Text) → HasRefusalForm refusal → refusal_words refusal ≡ own ∷ []
    → cond (bytes_eq word own) (Ok refusal) rest ≡ Ok read
    → (rest ≡ Ok read → SaysRefusal (word ∷ []) read) → SaysRefusal (word ∷ []) read
first_or word own refusal rest read form words e later = by (bytes_eq word own) refl e
  where
    by : (b : Bool) → bytes_eq word own ≡ b → cond b (Ok refusal) rest ≡ Ok read
        → SaysRefusal (word ∷ []) read
    by true is h =
        let same : refusal ≡ read = cc in
        subst (SaysRefusal (word ∷ [])) same (
          form,
          ap (λ (w : Text). w ∷ []) ((bytes_eq-Decides word own).0 is) ∙ sym words,
        )
    by false is h = later h

plain_refusal_says : (word : Text) (refusal : Refusal Text) → plain_refusal_in word ≡ Ok refusal
    → SaysRefusal (word ∷ []) refusal
plain_refusal_says word refusal e =
    first_or word (codes "not-locked") NotLocked _ refusal tt refl e
    (λ e1. first_or word (codes "building") Building _ refusal tt refl e1
    (λ e2. first_or word (codes "not-building") NotBuilding _ refusal tt refl e2
    (λ e3. first_or word (codes "self") Itself _ refusal tt refl e3 (λ e4. absurd cc))))

refusal_says : (args : List Text) (refusal : Refusal Text) → refusal_in_words args ≡ Ok refusal
    → SaysRefusal args refusal
refusal_says (w ∷ []) refusal e = plain_refusal_says w refusal e
refusal_says (w ∷ n ∷ []) refusal e =
    let exists =
    guard_or (bytes_eq w (codes "exists")) (name_in n >>= λ name. Ok (Exists name)) e in
    let a = bind_ok (name_in n) (λ name. Ok (Exists name)) refusal exists.1 in
    let g = guard_ok (is_name n) BadName n a.0 a.1 in
    let same : Exists a.0 ≡ refusal = cc in
    let word : w ≡ codes "exists" = (bytes_eq-Decides w (codes "exists")).0 exists.0 in
    let name : is_name a.0 ≡ true = subst (λ (t : Text). is_name t ≡ true) g.1 g.0 in
    subst (SaysRefusal (w ∷ n ∷ [])) same (name, λ i. word i ∷ g.1 i ∷ [])
  where
    guard_or : (b : Bool) (r : Result (Refusal Text) LineFault)
        → cond b r (Err WrongWords) ≡ Ok refusal → (b ≡ true) × (r ≡ Ok refusal)
    guard_or true r h = (refl, h)
    guard_or false r h = absurd cc
refusal_says args refusal e = absurd cc

okay_says : (args : List Text) (reply : Reply Text) → okay_in args ≡ Ok reply
    → SaysReply (codes "ok") args reply
okay_says [] reply e = says_same (codes "ok") [] Okay reply (record { form = tt; text = refl }) e
okay_says (w ∷ ws) reply e = absurd cc

-- the words after a reply's word, if what they are read as makes the reply
bound_says : {X : Type 0} {word : Text} {args : List Text} {reply : Reply Text}
    (form : X → Reply Text) (reading : Result X LineFault)
    → ((x : X) → spaced word (args_of (form x)) ≡ reply_text_of (form x))
    → ((x : X) → reading ≡ Ok x → HasReplyForm (form x) × (args ≡ args_of (form x)))
    → (reading >>= λ x. Ok (form x)) ≡ Ok reply → SaysReply word args reply
bound_says {word = word} {args = args} {reply = reply} form reading text say e =
    let a = bind_ok reading (λ x. Ok (form x)) reply e in
    let b = say a.0 a.1 in
    says_same word args (form a.0) reply
    (record { form = b.0; text = ap (spaced word) b.1 ∙ text a.0 }) a.2

-- the words after that of the kind
args_say : (kind : ReplyKind) (args : List Text) (reply : Reply Text)
    → reply_args_in (Some kind) args ≡ Ok reply → SaysReply (reply_word kind) args reply
unfolding reply_args_in
args_say kinds.Okay args reply e = okay_says args reply e
args_say kinds.Granted args reply e =
    bound_says Granted (one_word_in grant_in args) (λ x. refl) (grant_args_say args) e
args_say kinds.Busy args reply e =
    bound_says Busy (one_word_in grant_in args) (λ x. refl) (grant_args_say args) e
args_say kinds.Stale args reply e =
    bound_says Stale (some_names_in_words args) (λ x. refl) (some_names_say args) e
args_say kinds.Stamped args reply e =
    bound_says Stamped (one_word_in digest_in args) (λ x. refl) (digest_args_say args) e
args_say kinds.Ood args reply e =
    bound_says Ood (names_in_words args) (λ x. refl) (names_say args) e
args_say kinds.Targets args reply e =
    bound_says Targets (names_in_words args) (λ x. refl) (names_say args) e
args_say kinds.Sources args reply e =
    bound_says Sources (names_in_words args) (λ x. refl) (names_say args) e
args_say kinds.Refused args reply e =
    bound_says Refused (refusal_in_words args) (λ x. refl) (refusal_says args) e

-- what is read by the words of a text is what it says
words_say : (text : Text) (reply : Reply Text) → reply_words_in (words_of text) ≡ Ok reply
    → IsReplyText text reply
unfolding reply_words_in reply_args_in
words_say text reply e = by (words_of text) refl e
  where
    by : (words : List Text) → words_of text ≡ words → reply_words_in words ≡ Ok reply
        → IsReplyText text reply
    by [] split h = absurd cc
    by (word ∷ args) split h = found (reply_kind_named word) refl h
      where
        found : (kind : Option ReplyKind) → reply_kind_named word ≡ kind
            → reply_args_in kind args ≡ Ok reply → IsReplyText text reply
        found None named k = absurd cc
        found (Some kind) named k =
            let says = args_say kind args reply k in
            let is : word ≡ reply_word kind = reply_word_is word kind named in (
              says.form,
              line_is_spaced text word args split ∙ ap (λ (w : Text). spaced w args) is ∙ says.text,
            )

-- what is read is a reply's text, and its names are added
pub reply_found : {most : ℕ} (names : List Text) (text : Text) (reply : Reply Text)
    (after : List Text)
    → reply_in most names text ≡ Ok (reply, after)
    → IsReplyText text reply × AddsReplyNames most names reply after
unfolding reply_in
reply_found {most} names text reply after e =
    let a =
    bind_ok (reply_words_in (words_of text))
    (λ r. all_added most names (names_in_reply r) >>= λ later. Ok (r, later)) (reply, after) e in
    let b =
    bind_ok (all_added most names (names_in_reply a.0)) (λ later. Ok (a.0, later))
    (reply, after) a.2 in
    let same : (a.0, b.0) ≡ (reply, after) = cc in
    subst (λ (p : Reply Text × List Text). IsReplyText text p.0
    × AddsReplyNames most names p.0 p.1) same
    (words_say text a.0 a.1, all_added-is names (names_in_reply a.0) b.0 b.1)
