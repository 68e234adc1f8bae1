-- A history has no fault but `Memory`.
use Rattle.std.proofs.Common.{◌≡◌, ℕ, ◌+◌, ◌<◌, ◌≤◌, suc, List, [], ◌∷◌, ◌++◌, length, refl, sym, ap, ◌∙◌, subst, inl, inr, arith, append_assoc, append-nil}
use Rattle.std.specs.Prelude.{Contains, decimal}
use Rattle.std.specs.List.{flat_map}
use Rattle.std.proofs.lemmas.Grind.{flat_map-append}
use Rattle.redodb_model.specs.Names.{Text}
use Rattle.redodb_model.specs.Command.{Command, names_in}
use Rattle.redodb_model.specs.History.{Line}
use Rattle.redodb_text.specs.declared.fault.LineFault.{LineFault}
use Rattle.redodb_text.specs.Grammar.{IsCommandLine, AddsNames, with_names}
use Rattle.redodb_text.specs.Replies.{IsReplyText, AddsReplyNames, names_in_reply}
use Rattle.redodb_history.specs.Histories.{ended, header_of}
use Rattle.redodb_text.proofs.FaultOrCommand.{no_fault_in_a_line}
use Rattle.redodb_text.proofs.LineLaws.{one_command}
use Rattle.redodb_text.proofs.ScriptParts.{with_names-append, with_names-longer}
use Rattle.redodb_history.specs.HistoryTexts.{IsHistory, IsHistoryLine, AreHistoryLines, names_in_line}
use Rattle.redodb_history.specs.HistoryFaults.{IsCutAtArrow, arrow, HasBadSession, HasSession, IsNoReply, HasBadReply, HasBadCommand, IsReadUpTo, IsReadBefore, IsHistoryFault}
use Rattle.redodb_history.specs.declared.fault.HistoryFault.{HistoryFault}
use Rattle.redodb_history.specs.declared.fault.HistoryFault.TheVariants.{Memory, BadHeader, Cut, BadSession, BadLine, BadReply}
use Rattle.redodb_history.proofs.CutOnce.{without_from, one_cut_at_space, one_cut_at_arrow}
use Rattle.redodb_history.proofs.HistorySteps.{texts_count}
use Rattle.redodb_history.proofs.HistoryLines.{of_history, line_parts, session_is_without, line_is_one, command_cut, one_end, one_header, lines_prefix, IsPrefix}

-- what is left of a history begins with a line, whose names fit
record IsNext (names : List Text) (left : Text) : Type 0 where
  pub line : Line Text
  pub text : Text
  pub more : Text
  pub is : IsHistoryLine text line
  pub parts : left ≡ ended text ++ more
  pub few : length names ≤ 65536
  pub room : length (with_names names (names_in_line line)) ≤ 65536

-- a prefix's names, and those of the next line
room_for : (before : List (Line Text)) (line : Line Text) (after : List (Line Text))
    (names : List Text) → names ≡ with_names [] (flat_map names_in_line before)
    → length (with_names names (names_in_line line))
    ≤ length (with_names [] (flat_map names_in_line (before ++ line ∷ after)))
room_for before line after names is =
    let all = ap (with_names []) (flat_map-append names_in_line before (line ∷ after))
    ∙ with_names-append [] (flat_map names_in_line before)
    (names_in_line line ++ flat_map names_in_line after)
    ∙ ap (λ (l : List Text). with_names l (names_in_line line ++ flat_map names_in_line after))
    (sym is) ∙ with_names-append names (names_in_line line) (flat_map names_in_line after) in
    subst (λ (l : List Text). length (with_names names (names_in_line line)) ≤ length l) (sym all)
    (with_names-longer (with_names names (names_in_line line)) (flat_map names_in_line after))

next_of_prefix : (lines all : List (Line Text)) (left rest : Text) (names before : List Text)
    → names ≡ with_names [] (flat_map names_in_line all) → length names ≤ 65536
    → before ≡ with_names [] (flat_map names_in_line lines) → length before ≤ 65536
    → length lines < length all → IsPrefix lines all left rest → IsNext before left
next_of_prefix lines all left rest names before named room early few short prefix =
    by prefix.texts prefix.others prefix.whole prefix.each prefix.parts
  where
    by : (texts : List Text) (others : List (Line Text)) → all ≡ lines ++ others
        → AreHistoryLines texts others → left ≡ flat_map ended texts ++ rest → IsNext before left
    by [] [] whole each parts =
        absurd (omega (arith, ap length whole, ap length (append-nil lines)))
    by [] (line ∷ others) whole each parts = absurd each
    by (text ∷ texts) [] whole each parts = absurd each
    by (text ∷ texts) (line ∷ others) whole each parts =
        let fits = room_for lines line others before early in
        let same : length names
        ≡ length (with_names [] (flat_map names_in_line (lines ++ line ∷ others))) =
        ap length named ∙ ap
        (λ (l : List (Line Text)). length (with_names [] (flat_map names_in_line l))) whole in
        record {
          line = line;
          text = text;
          more = flat_map ended texts ++ rest;
          is = each.0;
          parts = parts ∙ append_assoc (ended text) (flat_map ended texts) rest;
          few = few;
          room = omega arith;
        }

-- if lines of a history are read and the header counts more, there is a next one
next_line : (input : Text) (names : List Text) (lines : List (Line Text)) (number : ℕ)
    (before : List Text) (left : Text) → IsHistory input names lines
    → IsReadUpTo input number before left → IsNext before left
next_line input names lines number before left is up =
    let header = one_header (length lines) up.count (flat_map ended is.texts ++ is.rest)
    (flat_map ended up.texts ++ left) is.few up.few
    (sym (append_assoc (header_of (length lines)) (flat_map ended is.texts) is.rest) ∙ sym is.parts
    ∙ up.parts ∙ append_assoc (header_of up.count) (flat_map ended up.texts) left) in
    let counted : length lines ≡ up.count = header.0 in
    let long : length up.texts ≡ length up.lines = texts_count up.texts up.lines up.read.each in
    let short : length up.lines < length lines = omega (arith, up.within, up.counted) in
    let prefix = lines_prefix up.texts is.texts up.lines lines left is.rest up.read.each
    is.read.each
    (omega arith) (sym header.1) in
    next_of_prefix up.lines lines left is.rest names before is.read.named.0 is.read.named.1
    up.read.named.0 up.read.named.1 short prefix

-- the next line's text
record IsGood (names : List Text) (text : Text) : Type 0 where
  pub line : Line Text
  pub is : IsHistoryLine text line
  pub few : length names ≤ 65536
  pub room : length (with_names names (names_in_line line)) ≤ 65536

good_line : (input : Text) (names : List Text) (lines : List (Line Text)) (number : ℕ)
    (before : List Text) (text : Text) → IsHistory input names lines
    → IsReadBefore input number before text → IsGood before text
good_line input names lines number before text is up =
    let next = next_line input names lines number before (ended text ++ up.1.0) is up.1.1 in
    let end = one_end next.text text next.more up.1.0
    (line_is_one next.text next.line (of_history next.text next.line next.is))
    (without_from 10 text up.0) (sym next.parts) in
    record {
      line = next.line;
      is = subst (λ (t : Text). IsHistoryLine t next.line) end.0 next.is;
      few = next.few;
      room = next.room;
    }

pub has_end : (text more : Text) → Contains (ended text ++ more) 10
has_end [] more = (0, omega arith, refl)
has_end (b ∷ text) more = let k = has_end text more in (suc k.0, omega arith, k.2)

no_cut : (input : Text) (names : List Text) (lines : List (Line Text)) → IsHistory input names lines
    → ¬ (IsHistoryFault input Cut)
no_cut input names lines is fault =
    let next = next_line input names lines fault.0 fault.1 fault.2 is fault.3 in
    fault.4 (subst (λ (t : Text). Contains t 10) (sym next.parts) (has_end next.text next.more))

no_bad_session : (names : List Text) (text : Text) → IsGood names text → ¬ (HasBadSession text)
no_bad_session names text good bad =
    let cut = one_cut_at_space text (decimal (good.line.session + 1))
    (good.is.command ++ arrow ++ good.is.reply) bad.0 bad.1
    (session_is_without 32 text good.line refl (of_history text good.line good.is))
    (line_parts text good.line (of_history text good.line good.is))
    bad.2 in
    bad.3 good.line.session (good.is.session, cut.0)

-- the rest after the session
rest_of : (names : List Text) (text rest : Text) (good : IsGood names text) → HasSession text rest
    → rest ≡ good.is.command ++ arrow ++ good.is.reply
rest_of names text rest good has =
    (one_cut_at_space text (decimal (good.line.session + 1))
    (good.is.command ++ arrow ++ good.is.reply) has.0 rest
    (session_is_without 32 text good.line refl (of_history text good.line good.is))
    (line_parts text good.line (of_history text good.line good.is))
    has.2).1

-- the parts of the rest
parts_of : (names : List Text) (text rest command reply : Text) (good : IsGood names text)
    → HasSession text rest → IsCutAtArrow rest command reply → (command ≡ good.is.command)
    × (reply ≡ good.is.reply)
parts_of names text rest command reply good has cut =
    one_cut_at_arrow (good.is.command ++ arrow ++ good.is.reply) command reply good.is.command
    good.is.reply (subst (λ (t : Text). IsCutAtArrow t command reply)
    (rest_of names text rest good has) cut)
    (command_cut good.is.command good.line.command good.is.reply good.is.said)

-- the names with the command's fit, and so do those with the reply's
command_fits : (names : List Text) (text : Text) (good : IsGood names text)
    → AddsNames 65536 names (good.line.command ∷ []) (with_names names (names_in good.line.command))
command_fits names text good =
    let all = with_names-append names (names_in good.line.command)
    (names_in_reply good.line.reply) in
    let long = with_names-longer (with_names names (names_in good.line.command))
    (names_in_reply good.line.reply) in
    let room : length (with_names names (names_in_line good.line)) ≤ 65536 = good.room in (
      ap (with_names names) (sym (append-nil (names_in good.line.command))),
      omega (arith, ap length all),
    )

reply_fits : (names : List Text) (text : Text) (good : IsGood names text)
    → AddsReplyNames 65536 (with_names names (names_in good.line.command)) good.line.reply
    (with_names (with_names names (names_in good.line.command)) (names_in_reply good.line.reply))
reply_fits names text good = (
  refl,
  subst (λ (l : List Text). length l ≤ 65536)
      (with_names-append names (names_in good.line.command) (names_in_reply good.line.reply))
      good.room,
)

no_bad_command : (names : List Text) (text : Text) (fault : LineFault) → IsGood names text
    → ¬ (HasBadCommand names text fault)
no_bad_command names text fault good bad =
    let parts = parts_of names text bad.0 bad.1 bad.2 good bad.3 bad.4 in
    let said = subst (λ (t : Text). IsCommandLine t good.line.command) (sym parts.0) good.is.said in
    let none = no_fault_in_a_line names bad.1 good.line.command
    (with_names names (names_in good.line.command)) said (command_fits names text good) in
    let other = bad.5 in
    absurd cc

no_bad_reply : (names : List Text) (text : Text) → IsGood names text → ¬ (HasBadReply names text)
no_bad_reply names text good bad = elim bad.2 [
  | inl none ↦ none good.is.command good.is.reply (rest_of names text bad.0 good bad.1)
  | inr some ↦
      let parts = parts_of names text bad.0 some.0 some.1 good bad.1 some.4 in
      let said = subst (λ (t : Text). IsCommandLine t some.2) parts.0 some.5 in
      let same : some.2 ≡ good.line.command =
      one_command good.is.command some.2 good.line.command said good.is.said in
      let added : some.3 ≡ with_names names (names_in good.line.command) =
      some.6.0 ∙ ap (λ (c : Command Text). with_names names (names_in c ++ [])) same
      ∙ sym (command_fits names text good).0 in
      let no_reply = subst (λ (l : List Text). IsNoReply l some.1) added some.7 in
      no_reply good.line.reply (with_names (with_names names (names_in good.line.command))
      (names_in_reply good.line.reply))
      (subst (λ (t : Text). IsReplyText t good.line.reply) (sym parts.1) good.is.answered)
      (reply_fits names text good)
]

pub no_fault : (input : Text) (names : List Text) (lines : List (Line Text)) (fault : HistoryFault)
    → IsHistory input names lines → IsHistoryFault input fault → fault ≡ Memory
no_fault input names lines Memory is cause = refl
no_fault input names lines BadHeader is cause =
    absurd (cause (length lines) (flat_map ended is.texts ++ is.rest) is.few (is.parts
    ∙ append_assoc (header_of (length lines)) (flat_map ended is.texts) is.rest))
no_fault input names lines Cut is cause = absurd (no_cut input names lines is cause)
no_fault input names lines (BadSession number) is cause =
    absurd (no_bad_session cause.0 cause.1 (good_line input names lines number cause.0 cause.1 is
    cause.2) cause.3)
no_fault input names lines (BadLine number fault) is cause =
    absurd (no_bad_command cause.0 cause.1 fault (good_line input names lines number cause.0 cause.1
    is cause.2) cause.3)
no_fault input names lines (BadReply number) is cause =
    absurd (no_bad_reply cause.0 cause.1 (good_line input names lines number cause.0 cause.1 is
    cause.2) cause.3)
