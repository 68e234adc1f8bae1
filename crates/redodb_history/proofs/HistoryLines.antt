-- The lines of a history are determined one by one.
use Rattle.std.proofs.Common.{◌≡◌, ℕ, ◌+◌, ◌<◌, ◌≤◌, ◌^◌, false, List, [], ◌∷◌, ◌++◌, length, refl, sym, ap, ◌∙◌, subst, arith, append_assoc}
use Rattle.std.specs.Prelude.{codes, decimal}
use Rattle.std.specs.List.{flat_map}
use Rattle.std.proofs.lemmas.Fmt.{decimal_injective}
use Rattle.redodb_model.specs.Names.{Text, is_visible}
use Rattle.redodb_model.specs.Command.{Command}
use Rattle.redodb_model.specs.History.{Line}
use Rattle.redodb_text.specs.Grammar.{IsCommandLine}
use Rattle.redodb_text.specs.Replies.{IsReplyText}
use Rattle.redodb_history.specs.Histories.{ended, header_of}
use Rattle.redodb_text.proofs.LineLaws.{one_command}
use Rattle.redodb_history.specs.HistoryTexts.{IsHistoryLine, AreHistoryLines}
use Rattle.redodb_history.specs.HistoryFaults.{IsCutAtArrow, arrow}
use Rattle.redodb_history.proofs.CutOnce.{Without, without_append, first_cut, same_prefix, cut_after, one_cut_at_arrow}
use Rattle.redodb_history.proofs.FreeWords.{without_unseen, decimal_is_visible, command_words, command_is_one_line, reply_is_one_line}
use Rattle.redodb_text.proofs.RepliesRead.{one_reply}

pub number_is_without : (b n : ℕ) → is_visible b ≡ false → n < 2 ^ 64 → Without b (decimal n)
number_is_without b n unseen h = without_unseen b unseen (decimal n) (decimal_is_visible n h)

regroup : (d c a r : Text) → d ++ codes " " ++ c ++ a ++ r ≡ d ++ 32 ∷ (c ++ a ++ r)
regroup d c a r = ap (λ (t : Text). t ++ r) (append_assoc (d ++ codes " ") c a)
    ∙ append_assoc (d ++ codes " ") (c ++ a) r ∙ append_assoc d (codes " ") (c ++ a ++ r)

-- the text, without its LF, is that of a line of a history or of a log
pub record IsLineText (text : Text) (line : Line Text) : Type 0 where
  pub session : line.session < 65535
  pub command : Text
  pub reply : Text
  pub parts : text ≡ decimal (line.session + 1) ++ codes " " ++ command ++ codes " => " ++ reply
  pub said : IsCommandLine command line.command
  pub answered : IsReplyText reply line.reply

abbrev pub of_history : (text : Text) (line : Line Text) → IsHistoryLine text line
    → IsLineText text line
of_history text line is = record {
  session = let few = is.session in omega arith;
  command = is.command;
  reply = is.reply;
  parts = is.parts;
  said = is.said;
  answered = is.answered;
}

-- the line's text, cut at its first space
pub line_parts : (text : Text) (line : Line Text) (is : IsLineText text line)
    → text ≡ decimal (line.session + 1) ++ 32 ∷ (is.command ++ arrow ++ is.reply)
line_parts text line is = is.parts ∙ regroup (decimal (line.session + 1)) is.command arrow is.reply

small : (session : ℕ) → session < 65535 → session + 1 < 2 ^ 64
small session few = omega arith

pub session_is_without : (b : ℕ) (text : Text) (line : Line Text) → is_visible b ≡ false
    → IsLineText text line → Without b (decimal (line.session + 1))
session_is_without b text line unseen is = number_is_without b (line.session + 1) unseen
    (small line.session is.session)

-- it has no line feed
pub line_is_one : (text : Text) (line : Line Text) → IsLineText text line → Without 10 text
line_is_one text line is =
    let command = command_is_one_line is.command line.command is.said in
    let reply = reply_is_one_line is.reply line.reply is.answered in
    let said = without_append 10 is.command arrow command other in
    let answer = without_append 10 (is.command ++ arrow) is.reply said reply in
    subst (Without 10) (sym (line_parts text line is))
    (without_append 10 (decimal (line.session + 1)) (32 ∷ (is.command ++ arrow ++ is.reply))
    (session_is_without 10 text line refl is) (λ e. omega arith, answer))
  where
    other : Without 10 arrow
    other = (λ e. omega arith, (λ e. omega arith, (λ e. omega arith, (λ e. omega arith, tt))))

-- a command ends at the first arrow
pub command_cut : (text : Text) (command : Command Text) (reply : Text) → IsCommandLine text command
    → IsCutAtArrow (text ++ arrow ++ reply) text reply
command_cut text command reply is =
    let words = command_words text command is in
    subst (λ (t : Text). IsCutAtArrow (t ++ arrow ++ reply) t reply) (sym words.text_is)
    (cut_after words.word words.args reply words.first words.others)

-- a text is the text of at most one line
pub one_line : (text : Text) (a b : Line Text) → IsLineText text a → IsLineText text b → a ≡ b
one_line text a b p q =
    let cut = first_cut 32 (decimal (a.session + 1)) (decimal (b.session + 1))
    (p.command ++ arrow ++ p.reply) (q.command ++ arrow ++ q.reply)
    (session_is_without 32 text a refl p) (session_is_without 32 text b refl q)
    (sym (line_parts text a p) ∙ line_parts text b q) in
    let next : a.session + 1 ≡ b.session + 1 = decimal_injective (a.session + 1) (b.session + 1)
    (small a.session p.session) (small b.session q.session) cut.0 in
    let session : a.session ≡ b.session = omega arith in
    let arrows = one_cut_at_arrow (p.command ++ arrow ++ p.reply) p.command p.reply q.command
    q.reply (command_cut p.command a.command p.reply p.said)
    (subst (λ (t : Text). IsCutAtArrow t q.command q.reply) (sym cut.1)
    (command_cut q.command b.command q.reply q.said)) in
    let command : a.command ≡ b.command = one_command p.command a.command b.command p.said
    (subst (λ (t : Text). IsCommandLine t b.command) (sym arrows.0) q.said) in
    let reply : a.reply ≡ b.reply =
    one_reply p.reply a.reply b.reply p.answered (subst (λ (t : Text). IsReplyText t b.reply)
    (sym arrows.1) q.answered) in
    λ i. record { session = session i; command = command i; reply = reply i }

-- a text is ended in one way
pub one_end : (a b r s : Text) → Without 10 a → Without 10 b → ended a ++ r ≡ ended b ++ s
    → (a ≡ b) × (r ≡ s)
one_end a b r s p q e = first_cut 10 a b r s p q (sym (append_assoc a (10 ∷ []) r) ∙ e
    ∙ append_assoc b (10 ∷ []) s)

header_is_one : (n : ℕ) → n ≤ 1048576 → Without 10 (codes "history " ++ decimal n)
header_is_one n few =
    without_append 10 (codes "history ") (decimal n)
    (without_append 10 (codes "history") (codes " ")
    (without_unseen 10 refl (codes "history") refl) (λ e. omega arith, tt))
    (number_is_without 10 n refl (omega arith))

-- and so is a header
pub one_header : (n m : ℕ) (r s : Text) → n ≤ 1048576 → m ≤ 1048576
    → header_of n ++ r ≡ header_of m ++ s → (n ≡ m) × (r ≡ s)
one_header n m r s few other e =
    let end = one_end (codes "history " ++ decimal n) (codes "history " ++ decimal m) r s
    (header_is_one n few) (header_is_one m other) e in
    let digits = (same_prefix (codes "history ") (codes "history ") (decimal n) (decimal m) refl
    end.0).1 in
    (decimal_injective n m (omega arith) (omega arith) digits, end.1)

-- the lines are a prefix of all, and this is left of the text
pub record IsPrefix (lines all : List (Line Text)) (left rest : Text) : Type 0 where
  pub texts : List Text
  pub others : List (Line Text)
  pub whole : all ≡ lines ++ others
  pub each : AreHistoryLines texts others
  pub parts : left ≡ flat_map ended texts ++ rest

-- the first of some lines that are read from one text
pub lines_prefix : (texts more : List Text) (lines all : List (Line Text)) (left rest : Text)
    → AreHistoryLines texts lines → AreHistoryLines more all → length lines ≤ length all
    → flat_map ended texts ++ left ≡ flat_map ended more ++ rest → IsPrefix lines all left rest
lines_prefix [] more [] all left rest p q few e = record {
  texts = more;
  others = all;
  whole = refl;
  each = q;
  parts = e;
}
lines_prefix [] more (line ∷ lines) all left rest p q few e = absurd p
lines_prefix (text ∷ texts) more [] all left rest p q few e = absurd p
lines_prefix (text ∷ texts) more (line ∷ lines) [] left rest p q few e = absurd (omega arith)
lines_prefix (text ∷ texts) [] (line ∷ lines) (next ∷ all) left rest p q few e = absurd q
lines_prefix (text ∷ texts) (other ∷ more) (line ∷ lines) (next ∷ all) left rest p q few e =
    let end = one_end text other (flat_map ended texts ++ left) (flat_map ended more ++ rest)
    (line_is_one text line (of_history text line p.0))
    (line_is_one other next (of_history other next q.0))
    (sym (append_assoc (ended text) (flat_map ended texts) left) ∙ e
    ∙ append_assoc (ended other) (flat_map ended more) rest) in
    let same : next ≡ line =
    one_line text next line
    (subst (λ (t : Text). IsLineText t next) (sym end.0) (of_history other next q.0))
    (of_history text line p.0) in
    let prefix = lines_prefix texts more lines all left rest p.1 q.1 (omega arith) end.1 in
    record {
      texts = prefix.texts;
      others = prefix.others;
      whole = λ i. same i ∷ prefix.whole i;
      each = prefix.each;
      parts = prefix.parts;
    }
