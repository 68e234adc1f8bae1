-- What the text of a line asks: one thing at most.
use Rattle.std.proofs.Common.{◌≡◌, ◌≢◌, ℕ, ◌+◌, Bool, true, false, cond, List, [], ◌∷◌, ◌++◌, Some, None, length, refl, sym, ap, ◌∙◌, subst, append-nil, arith, ◌==◌}
use Rattle.std.specs.Prelude.{bytes_eq, codes, decimal, drop, is_some, not}
use Rattle.std.specs.List.{flat_map}
use Rattle.std.proofs.lemmas.Bool.{false≢true, ne_eqb}
use Rattle.std.proofs.lemmas.Fmt.{decimal_injective}
use Rattle.std.proofs.lemmas.List.{append_cancel_left}
use Rattle.redodb_names.specs.Names.{is_name}
use Rattle.redodb_model.specs.Names.{Text}
use Rattle.redodb_model.specs.Command.{Command, File, Gone, Lock, Unlock, Start, IfChange, IfCreate, Always, Stamp, Done, Failed, Ood, Targets, Sources}
use Rattle.redodb_text.specs.declared.fault.LineFault.{LineFault}
use Rattle.redodb_text.specs.declared.fault.LineFault.TheVariants.{LineTooLong, BadByte, BadName, WrongWords}
use Rattle.redodb_text.specs.declared.inquiries.Inquiry.{Inquiry}
use Rattle.redodb_text.specs.declared.inquiries.Inquiry.TheVariants as inquiries
use Rattle.redodb_text.specs.Grammar.{IsSpelled}
use Rattle.redodb_text.specs.Inquiries.{inquiry_fault, inquiry_in, inquiry_named, inquiry_text_of, inquiry_word, asked_fault}
use Rattle.redodb_text.specs.Questions.{Question, a_name, first_yes, has_bad_byte, is_too_long, line_fault, word_questions, words_of}
use Rattle.redodb_text.specs.Texts.{after_space, spaced, stamp_word}
use Rattle.redodb_text.proofs.Spaced.{IsVisible, line_is_spaced, words_of-first}
use Rattle.redodb_history.proofs.CutOnce.{first_cut}
use Rattle.redodb_history.proofs.FreeWords.{decimal_is_visible}
use Rattle.redodb_history.proofs.HistoryLines.{number_is_without}
use Rattle.redodb_keeping.specs.Rounds.{Asks, end_word, names_word}
use Rattle.redodb_conversation.proofs.Asking.{asks_at_space}

-- a line names one session and has one text
pub asks_one : (received : Text) (s t : ℕ) (text other : Text) → Asks received s text
    → Asks received t other → (s ≡ t) × (text ≡ other)
asks_one received s t text other p q =
    let small = p.0 in
    let few = q.0 in
    let both = first_cut 32 (decimal (s + 1)) (decimal (t + 1)) text other
    (number_is_without 32 (s + 1) refl (omega arith))
    (number_is_without 32 (t + 1) refl (omega arith))
    (sym (asks_at_space received s text p) ∙ asks_at_space received t other q) in
    let same : s + 1 ≡ t + 1 =
    decimal_injective (s + 1) (t + 1) (omega arith) (omega arith) both.0 in
    (omega arith, both.1)

-- 1 for `end`, 3 for `names`, 2 for a question's word, else 0
abbrev pub word_kind : Text → ℕ
word_kind w =
    cond (bytes_eq w end_word) 1
    (cond (bytes_eq w names_word) 3 (cond (is_some (inquiry_named w)) 2 0))

abbrev pub second_kind : List Text → ℕ
second_kind [] = 4
second_kind (n ∷ []) = 4
second_kind (n ∷ w ∷ ws) = word_kind w

-- that of the first word after the session
abbrev pub received_kind : Text → ℕ
received_kind received = second_kind (words_of received)

pub kind_of_first : (received : Text) (s : ℕ) (text w : Text) (ws : List Text)
    → Asks received s text → words_of text ≡ w ∷ ws → received_kind received ≡ word_kind w
kind_of_first received s text w ws asks e =
    let few = asks.0 in
    let number = decimal (s + 1) in
    ap received_kind (asks_at_space received s text asks)
    ∙ ap second_kind (words_of-first number text (decimal_is_visible (s + 1) (omega arith)))
    ∙ ap (λ words. second_kind (number ∷ words)) e

-- the first word is that of a command
pub record HasKeyword (text : Text) : Type 0 where
  pub word : Text
  pub words : List Text
  pub words_are : words_of text ≡ word ∷ words
  pub kind : word_kind word ≡ 0
  pub asks_nothing : inquiry_named word ≡ None

before_names : (text word t : Text) (ts : List Text) → IsVisible word → word_kind word ≡ 0
    → inquiry_named word ≡ None → text ≡ spaced word (t ∷ ts) → HasKeyword text
before_names text word t ts visible kind nothing e = record {
  word = word;
  words = words_of (t ++ flat_map after_space ts);
  words_are = ap words_of e ∙ words_of-first word (t ++ flat_map after_space ts) visible;
  kind = kind;
  asks_nothing = nothing;
}

pub command_keyword : (text : Text) (command : Command Text) → IsSpelled text command
    → HasKeyword text
command_keyword text (File n stamp) e =
    before_names text (codes "file") n (stamp ∷ []) refl refl refl e
command_keyword text (Gone n) e = before_names text (codes "gone") n [] refl refl refl e
command_keyword text (Lock t) e = before_names text (codes "lock") t [] refl refl refl e
command_keyword text (Unlock t) e = before_names text (codes "unlock") t [] refl refl refl e
command_keyword text (Start t) e = before_names text (codes "start") t [] refl refl refl e
command_keyword text (IfChange t ns) e =
    before_names text (codes "ifchange") t ns refl refl refl e
command_keyword text (IfCreate t ns) e =
    before_names text (codes "ifcreate") t ns refl refl refl e
command_keyword text (Always t) e = before_names text (codes "always") t [] refl refl refl e
command_keyword text (Stamp t content) e =
    before_names text (codes "stamp") t (e.0 ∷ []) refl refl refl e.1
command_keyword text (Done t stamp) e =
    before_names text (codes "done") t (stamp_word stamp ∷ []) refl refl refl e
command_keyword text (Failed t) e = before_names text (codes "failed") t [] refl refl refl e
command_keyword text Ood e = record {
  word = codes "ood";
  words = [];
  words_are = ap words_of e;
  kind = refl;
  asks_nothing = refl;
}
command_keyword text Targets e = record {
  word = codes "targets";
  words = [];
  words_are = ap words_of e;
  kind = refl;
  asks_nothing = refl;
}
command_keyword text Sources e = record {
  word = codes "sources";
  words = [];
  words_are = ap words_of e;
  kind = refl;
  asks_nothing = refl;
}

pub command_asks_nothing : (text : Text) (command : Command Text) → IsSpelled text command
    → inquiry_in (words_of text) ≡ None
command_asks_nothing text command e =
    let is = command_keyword text command e in
    ap inquiry_in is.words_are ∙ is.asks_nothing

inquiry_word_is : (inquiry : Inquiry) → IsVisible (inquiry_word inquiry)
    × (word_kind (inquiry_word inquiry) ≡ 2)
    × (inquiry_named (inquiry_word inquiry) ≡ Some inquiry)
inquiry_word_is inquiries.Why = (refl, refl, refl)
inquiry_word_is inquiry = (refl, refl, refl)

-- the words of a question
pub inquiry_words : (inquiry : Inquiry) (name : Text)
    → words_of (inquiry_text_of inquiry name) ≡ inquiry_word inquiry ∷ words_of (name ++ [])
inquiry_words inquiry name =
    words_of-first (inquiry_word inquiry) (name ++ []) (inquiry_word_is inquiry).0

pub inquiry_kind : (inquiry : Inquiry) → word_kind (inquiry_word inquiry) ≡ 2
inquiry_kind inquiry = (inquiry_word_is inquiry).1

pub inquiry_is : (inquiry : Inquiry) (name : Text)
    → inquiry_in (words_of (inquiry_text_of inquiry name)) ≡ Some inquiry
inquiry_is inquiry name =
    ap inquiry_in (inquiry_words inquiry name) ∙ (inquiry_word_is inquiry).2

-- a text is at most one question about one name
pub one_inquiry : (a b : Inquiry) (n m : Text) → inquiry_text_of a n ≡ inquiry_text_of b m
    → (a ≡ b) × (n ≡ m)
one_inquiry a b n m e =
    let some : Some a ≡ Some b =
    sym (inquiry_is a n) ∙ ap (λ t. inquiry_in (words_of t)) e ∙ inquiry_is b m in
    let same : a ≡ b = cc in
    let behind : 32 ∷ (n ++ []) ≡ 32 ∷ (m ++ []) =
    append_cancel_left (inquiry_word b) (32 ∷ (n ++ [])) (32 ∷ (m ++ []))
    (ap (λ i. inquiry_text_of i n) (sym same) ∙ e) in
    let names : n ++ [] ≡ m ++ [] = cc in
    (same, sym (append-nil n) ∙ names ∙ append-nil m)

-- the fault of a question
pub inquiry_asked : (names : List Text) (inquiry : Inquiry) (name : Text)
    → asked_fault 16777216 names (inquiry_text_of inquiry name)
    ≡ inquiry_fault (inquiry_text_of inquiry name)
inquiry_asked names inquiry name =
    let text = inquiry_text_of inquiry name in
    ap (λ o. cond (is_some o) (inquiry_fault text) (line_fault 16777216 names text))
    (inquiry_is inquiry name)

none_of : (b : Bool) (fault : LineFault) (others : List Question)
    → first_yes ((b, fault) ∷ others) ≡ None → (b ≡ false) × (first_yes others ≡ None)
none_of true fault others e = absurd cc
none_of false fault others e = (refl, e)

one_name : (words : List Text)
    → first_yes ((not (length words == 1), WrongWords) ∷ word_questions (a_name ∷ []) words) ≡ None
    → (w : Text) × (words ≡ w ∷ []) × (is_name w ≡ true)
one_name [] e = absurd cc
one_name (w ∷ []) e = (w, refl, is (is_name w) (none_of (not (is_name w)) BadName [] e).0)
  where
    is : (b : Bool) → not b ≡ false → b ≡ true
    is true h = refl
    is false h = absurd cc
one_name (w ∷ v ∷ vs) e =
    let long : length (w ∷ v ∷ vs) ≢ 1 = λ h. absurd (omega (arith, h)) in
    let first : not (length (w ∷ v ∷ vs) == 1) ≡ false =
    (none_of (not (length (w ∷ v ∷ vs) == 1)) WrongWords
    (word_questions (a_name ∷ []) (w ∷ v ∷ vs)) e).0 in
    let other : not (length (w ∷ v ∷ vs) == 1) ≡ true =
    ap not (ne_eqb (length (w ∷ v ∷ vs)) 1 long) in
    absurd (false≢true (sym first ∙ other))

-- a question without a fault is about a name
pub fits_has_name : (inquiry : Inquiry) (name : Text)
    → inquiry_fault (inquiry_text_of inquiry name) ≡ None → is_name name ≡ true
unfolding inquiry_fault
fits_has_name inquiry name fits =
    let text = inquiry_text_of inquiry name in
    let words : drop 1 (words_of text) ≡ words_of (name ++ []) =
    ap (drop 1) (inquiry_words inquiry name) in
    let own = drop 1 (words_of text) in
    let last = (not (length own == 1), WrongWords) ∷ word_questions (a_name ∷ []) own in
    let long = none_of (is_too_long text) LineTooLong ((has_bad_byte text, BadByte) ∷ last) fits in
    let bad = none_of (has_bad_byte text) BadByte last long.1 in
    let (w, are, is) = one_name own bad.1 in
    let same : name ≡ w =
    sym (append-nil name) ∙ line_is_spaced (name ++ []) w [] (sym words ∙ are) ∙ append-nil w in
    subst (λ t. is_name t ≡ true) (sym same) is
