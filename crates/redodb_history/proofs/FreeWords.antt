-- The texts of commands and replies are words of visible bytes; no word of a command is the arrow.
use Rattle.std.proofs.Common.{◌≡◌, ◌≢◌, ℕ, Bool, true, false, ◌&&◌, ◌||◌, not, List, [], ◌∷◌, length, Option, Some, None, refl, sym, ap, ◌∙◌, subst, arith}
use Rattle.std.specs.Prelude.{codes, bytes_eq, nat_le, IfSome, IsTrue}
use Rattle.std.specs.List.{AllByRecursion, flat_map, list_all}
use Rattle.std.proofs.lemmas.Bool.{both_ways, false≢true, not-true}
use Rattle.std.proofs.lemmas.Slice.Eq.{bytes_eq-Decides}
use Rattle.redodb_names.specs.Names.{is_name, begins_comment, is_reserved}
use Rattle.redodb_names.specs.declared.name.TheConstants.{LONGEST_NAME}
use Rattle.redodb_model.specs.Names.{Text, is_visible}
use Rattle.redodb_model.specs.Command.{Command, File, Gone, Lock, Unlock, Start, IfChange, IfCreate, Always, Stamp, Done, Failed, Ood, Targets, Sources}
use Rattle.redodb_model.specs.Reply.{Reply}
use Rattle.redodb_commands.specs.Stamp.{is_stamp, is_placeholder}
use Rattle.redodb_commands.specs.declared.stamp.TheConstants.{LONGEST_STAMP}
use Rattle.redodb_text.specs.Texts.{after_space, spaced, stamp_word}
use Rattle.redodb_text.specs.Grammar.{IsCommandLine, IsSpelled, HasForm, IsContentWord}
use Rattle.redodb_text.specs.Replies.{IsReplyText, AreAllNames}
use Rattle.redodb_text.specs.Support.ReplyReading.{reply_word}
use Rattle.redodb_text.proofs.Steps.{both, neither}
use Rattle.redodb_text.proofs.Spaced.{IsVisible, name_is_visible, stamp_is_visible}
use Rattle.redodb_text.proofs.Contents.{content_is_visible, arrow_is_no_content}
pub use Rattle.redodb_text.proofs.ReplyWords.{decimal_is_visible}
use Rattle.redodb_text.proofs.RepliesRead.{reply_kind_for, args_of, said, word_is_visible}
use Rattle.redodb_history.proofs.CutOnce.{Without, without_append, IsFreeWord}

-- bytes that are not visible are not in a visible word
pub without_unseen : (b : ℕ) → is_visible b ≡ false → (w : Text) → IsVisible w → Without b w
without_unseen b unseen [] h = tt
without_unseen b unseen (c ∷ cs) h =
    let k = both (is_visible c) (list_all is_visible cs) h in (
      λ e. false≢true (sym unseen ∙ ap is_visible (sym e) ∙ k.0),
      without_unseen b unseen cs k.1,
    )

-- a visible word, and no arrow
abbrev IsPlain : Text → Type 0
IsPlain word = IsVisible word × (bytes_eq word (codes "=>") ≡ false)

is_free : (w : Text) → IsPlain w → IsFreeWord w
is_free w plain = (
  without_unseen 32 refl w plain.0,
  λ e. both_ways (bytes_eq w (codes "=>")) plain.1 ((bytes_eq-Decides w (codes "=>")).1 e),
)

are_free : (ws : List Text) → AllByRecursion IsPlain ws → AllByRecursion IsFreeWord ws
are_free [] all = tt
are_free (w ∷ ws) all = (is_free w all.0, are_free ws all.1)

-- the text is words of which P is true
pub record IsWords (P : Text → Type 0) (text : Text) : Type 0 where
  pub word : Text
  pub args : List Text
  pub text_is : text ≡ spaced word args
  pub first : P word
  pub others : AllByRecursion P args

name_is_plain : (t : Text) → IsTrue (is_name t) → IsPlain t
unfolding is_name
name_is_plain t h =
    let good = nat_le 1 (length t) && nat_le (length t) LONGEST_NAME && list_all is_visible t in
    let free = neither (bytes_eq t (codes "-") || bytes_eq t (codes "=>")) (begins_comment t)
    (not-true (is_reserved t) (both good (not (is_reserved t)) h).1) in
    (name_is_visible t h, (neither (bytes_eq t (codes "-")) (bytes_eq t (codes "=>")) free.0).1)

names_are_plain : (ns : List Text) → AreAllNames ns → AllByRecursion IsPlain ns
names_are_plain [] all = tt
names_are_plain (n ∷ ns) all = (name_is_plain n all.0, names_are_plain ns all.1)

stamp_is_plain : (t : Text) → IsTrue (is_stamp t) → IsPlain t
unfolding is_stamp
stamp_is_plain t h =
    let good = nat_le 1 (length t) && nat_le (length t) LONGEST_STAMP && list_all is_visible t in
    let free = neither (bytes_eq t (codes "-")) (bytes_eq t (codes "=>"))
    (not-true (is_placeholder t) (both good (not (is_placeholder t)) h).1) in
    (stamp_is_visible t h, free.1)

stamp_word_is_plain : (stamp : Option Text) → IfSome stamp (λ s. IsTrue (is_stamp s))
    → IsPlain (stamp_word stamp)
stamp_word_is_plain None known = (refl, refl)
stamp_word_is_plain (Some s) known = stamp_is_plain s known

content_is_plain : (word content : Text) → IsContentWord word content → IsPlain word
content_is_plain word content is =
    (content_is_visible word content is, by (bytes_eq word (codes "=>")) refl)
  where
    by : (b : Bool) → bytes_eq word (codes "=>") ≡ b → b ≡ false
    by true arrow = absurd
        (arrow_is_no_content content (subst (λ (w : Text). IsContentWord w content)
        ((bytes_eq-Decides word (codes "=>")).0 arrow) is))
    by false arrow = refl

-- a keyword and names
keyword_and_names : (text keyword : Text) (ns : List Text) → text ≡ spaced keyword ns
    → IsPlain keyword → AreAllNames ns → IsWords IsPlain text
keyword_and_names text keyword ns e plain all = record {
  word = keyword;
  args = ns;
  text_is = e;
  first = plain;
  others = names_are_plain ns all;
}

words_are_plain : (line : Text) (command : Command Text) → HasForm command → IsSpelled line command
    → IsWords IsPlain line
words_are_plain line (File n stamp) form spelled = record {
  word = codes "file";
  args = n ∷ stamp ∷ [];
  text_is = spelled;
  first = (refl, refl);
  others = (name_is_plain n form.0, (stamp_is_plain stamp form.1, tt));
}
words_are_plain line (Gone n) form spelled = keyword_and_names line (codes "gone") (n ∷ []) spelled
    (refl, refl) (form, tt)
words_are_plain line (Lock t) form spelled = keyword_and_names line (codes "lock") (t ∷ []) spelled
    (refl, refl) (form, tt)
words_are_plain line (Unlock t) form spelled =
    keyword_and_names line (codes "unlock") (t ∷ []) spelled (refl, refl) (form, tt)
words_are_plain line (Start t) form spelled =
    keyword_and_names line (codes "start") (t ∷ []) spelled (refl, refl) (form, tt)
words_are_plain line (IfChange t ns) form spelled =
    keyword_and_names line (codes "ifchange") (t ∷ ns) spelled (refl, refl) (form.0, form.1.each)
words_are_plain line (IfCreate t ns) form spelled =
    keyword_and_names line (codes "ifcreate") (t ∷ ns) spelled (refl, refl) (form.0, form.1.each)
words_are_plain line (Always t) form spelled =
    keyword_and_names line (codes "always") (t ∷ []) spelled (refl, refl) (form, tt)
words_are_plain line (Stamp t content) form spelled =
    record {
      word = codes "stamp";
      args = t ∷ spelled.0 ∷ [];
      text_is = spelled.1;
      first = (refl, refl);
      others = (name_is_plain t form.0, (content_is_plain spelled.0 content spelled.2, tt));
    }
words_are_plain line (Done t stamp) form spelled =
    record {
      word = codes "done";
      args = t ∷ stamp_word stamp ∷ [];
      text_is = spelled;
      first = (refl, refl);
      others = (name_is_plain t form.0, (stamp_word_is_plain stamp form.1, tt));
    }
words_are_plain line (Failed t) form spelled =
    keyword_and_names line (codes "failed") (t ∷ []) spelled (refl, refl) (form, tt)
words_are_plain line Ood form spelled = keyword_and_names line (codes "ood") [] spelled (refl, refl)
    tt
words_are_plain line Targets form spelled = keyword_and_names line (codes "targets") [] spelled
    (refl, refl) tt
words_are_plain line Sources form spelled = keyword_and_names line (codes "sources") [] spelled
    (refl, refl) tt

-- a command line is free words
pub command_words : (line : Text) (command : Command Text) → IsCommandLine line command
    → IsWords IsFreeWord line
command_words line command is =
    let words = words_are_plain line command is.0 is.2 in
    record {
      word = words.word;
      args = words.args;
      text_is = words.text_is;
      first = is_free words.word words.first;
      others = are_free words.args words.others;
    }

without_words : (b : ℕ) → is_visible b ≡ false → 32 ≢ b → (ws : List Text)
    → AllByRecursion IsVisible ws → Without b (flat_map after_space ws)
without_words b unseen other [] all = tt
without_words b unseen other (w ∷ ws) all = (
  other,
  without_append b w (flat_map after_space ws) (without_unseen b unseen w all.0)
      (without_words b unseen other ws all.1),
)

-- words of visible bytes have no line feed
one_line : (text : Text) → IsWords IsVisible text → Without 10 text
one_line text words =
    subst (Without 10) (sym words.text_is)
    (without_append 10 words.word (flat_map after_space words.args)
    (without_unseen 10 refl words.word words.first)
    (without_words 10 refl (λ e. omega arith) words.args words.others))

are_visible : (ws : List Text) → AllByRecursion IsPlain ws → AllByRecursion IsVisible ws
are_visible [] all = tt
are_visible (w ∷ ws) all = (all.0.0, are_visible ws all.1)

pub command_is_one_line : (line : Text) (command : Command Text) → IsCommandLine line command
    → Without 10 line
command_is_one_line line command is =
    let words = words_are_plain line command is.0 is.2 in
    one_line line (record {
      word = words.word;
      args = words.args;
      text_is = words.text_is;
      first =
          words.first.0;
      others = are_visible words.args words.others;
    })

reply_words : (text : Text) (reply : Reply Text) → IsReplyText text reply → IsWords IsVisible text
reply_words text reply is =
    let from = said reply is.0 in
    record {
      word = reply_word (reply_kind_for reply);
      args = args_of reply;
      text_is = is.1 ∙ from.text;
      first = word_is_visible (reply_kind_for reply);
      others = from.visible;
    }

pub reply_is_one_line : (text : Text) (reply : Reply Text) → IsReplyText text reply
    → Without 10 text
reply_is_one_line text reply is = one_line text (reply_words text reply is)
