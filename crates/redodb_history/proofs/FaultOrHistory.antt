-- A text begins with a history, or it has a fault.
use Rattle.std.proofs.Common.{◌≡◌, ◌≢◌, ℕ, zero, suc, ◌+◌, ◌≤◌, ◌⊎◌, inl, inr, List, [], ◌∷◌, ◌++◌, length, Option, Some, None, Result, Ok, Err, refl, sym, ap, ◌∙◌, arith, append-nil, append_assoc, length-append}
use Rattle.std.specs.List.{flat_map}
use Rattle.redodb_model.specs.Names.{Text}
use Rattle.redodb_model.specs.Command.{Command}
use Rattle.redodb_model.specs.Reply.{Reply}
use Rattle.redodb_model.specs.History.{Line}
use Rattle.redodb_text.specs.declared.fault.LineFault.{LineFault}
use Rattle.redodb_text.specs.Grammar.{IsCommandLine, AddsNames}
use Rattle.redodb_text.specs.Questions.{line_fault}
use Rattle.redodb_text.specs.Support.ReplyReading.{reply_in}
use Rattle.redodb_text.proofs.FaultOrCommand.{command_without_fault}
use Rattle.redodb_text.proofs.RepliesFound.{reply_found}
use Rattle.redodb_text.proofs.RepliesRead.{reply_has_no_fault}
use Rattle.redodb_history.specs.Histories.{ended, header_of}
use Rattle.redodb_history.specs.HistoryTexts.{IsHistory, IsHistoryLine, AreLinesOf}
use Rattle.redodb_history.specs.Support.HistoryTexts.{AddsLineNames}
use Rattle.redodb_history.specs.HistoryFaults.{IsCutAtSpace, IsCutAtArrow, IsSessionWord, HasSession, IsNoReply, IsReadUpTo, IsHistoryFault}
use Rattle.redodb_history.specs.Support.HistoryFaults.{IsLineCause}
use Rattle.redodb_history.specs.declared.fault.HistoryFault.{HistoryFault}
use Rattle.redodb_history.specs.declared.fault.HistoryFault.TheVariants.{Memory, BadHeader, Cut, BadSession, BadLine, BadReply}
use Rattle.redodb_history.proofs.Decided.{has_rest, cut_at_byte, cut_at_space, session_of, cut_at_arrow, first_below}
use Rattle.redodb_history.proofs.HistorySteps.{texts_count, each_more, lines_named, flat_map_push, ended_cut, read_before, line_fails}
use Rattle.redodb_history.proofs.LineParts.{line_parts, line_named}

-- a line with this text, which adds these names
abbrev IsRead : List Text → Text → Type 0
IsRead names text =
    (line : Line Text) × (after : List Text) × IsHistoryLine text line
    × AddsLineNames names line after

-- the fault of the line of this number
abbrev Fails : List Text → ℕ → Text → Type 0
Fails names number text =
    (fault : HistoryFault) × (fault ≢ Memory) × IsLineCause names number text fault

-- after its session
line_read : (names : List Text) (number : ℕ) (text word rest : Text) (session : ℕ)
    → IsCutAtSpace text word rest → IsSessionWord 64 word session
    → IsRead names text ⊎ Fails names number text
line_read names number text word rest session cut is = elim (cut_at_arrow rest) [
  | inr none ↦ inr (BadReply number, λ e. absurd cc, (refl, (rest, begins, inl none)))
  | inl parts ↦ by parts.0 parts.1 parts.2 (line_fault 65536 names parts.0) refl
]
  where
    begins : HasSession text rest
    begins = (word, session, cut, is)

    answered : (command reply : Text) → IsCutAtArrow rest command reply → (said : Command Text)
        (mid : List Text) → IsCommandLine command said → AddsNames 65536 names (said ∷ []) mid
        → (found : Result (Reply Text × List Text) LineFault) → reply_in 65536 mid reply ≡ found
        → IsRead names text ⊎ Fails names number text
    answered command reply arrow said mid spelled adds (Err why) e =
        let none : IsNoReply mid reply =
        λ one after its fits. reply_has_no_fault mid reply one after why its fits e in
        inr (
          BadReply number,
          λ h. absurd cc,
          (refl, (rest, begins, inr (command, reply, said, mid, arrow, spelled, adds, none))),
        )
    answered command reply arrow said mid spelled adds (Ok found) e =
        let its = reply_found mid reply found.0 found.1 e in
        let line : Line Text = record { session = session; command = said; reply = found.0 } in
        inl (
          line,
          found.1,
          record {
            session = is.0;
            command = command;
            reply = reply;
            parts = line_parts session cut is arrow;
            said = spelled;
            answered = its.0;
          },
          line_named names mid found.1 line adds its.1,
        )

    by : (command reply : Text) → IsCutAtArrow rest command reply
        → (fault : Option LineFault) → line_fault 65536 names command ≡ fault
        → IsRead names text ⊎ Fails names number text
    by command reply arrow (Some fault) e =
        inr (BadLine number fault, λ h. absurd cc, (refl, (rest, command, reply, begins, arrow, e)))
    by command reply arrow None e =
        let said = command_without_fault names command e in
        answered command reply arrow said.0 said.1 said.2 said.3 (reply_in 65536 said.1 reply) refl

line_or_fault : (names : List Text) (number : ℕ) (text : Text)
    → IsRead names text ⊎ Fails names number text
line_or_fault names number text =
    let cut = cut_at_space text in
    elim (session_of cut.0) [
      | inl is ↦ line_read names number text cut.0 cut.1 is.0 cut.2 is.1
      | inr none ↦ inr (BadSession number, λ e. absurd cc, (refl, (cut.0, cut.1, cut.2, none)))
    ]

abbrev Known : Text → Type 0
Known input =
    ((names : List Text) × (lines : List (Line Text)) × IsHistory input names lines)
    ⊎ ((fault : HistoryFault) × (fault ≢ Memory) × IsHistoryFault input fault)

-- what is left after the lines that were read, if this many lines follow
read_on : (input : Text) (count todo : ℕ) (texts : List Text) (lines : List (Line Text))
    (names : List Text) (left : Text) → count ≤ 1048576 → length texts + todo ≡ count
    → AreLinesOf texts lines names → input ≡ header_of count ++ flat_map ended texts ++ left
    → Known input
read_on input count zero texts lines names left few counted read parts =
    let long : length lines ≡ count = omega (arith, counted, texts_count texts lines read.each) in
    inl (
      names,
      lines,
      record {
        few = omega (arith, few, long);
        texts = texts;
        rest = left;
        parts = parts ∙ ap (λ (n : ℕ). header_of n ++ flat_map ended texts ++ left) (sym long);
        read = read;
      },
    )
read_on input count (suc todo) texts lines names left few counted read parts =
    elim (cut_at_byte 10 left) [
      | inr none ↦ inr (Cut, λ e. absurd cc, (number, names, left, up, none))
      | inl cut ↦ elim (line_or_fault names number cut.0) [
        | inr bad ↦ inr (
          bad.0,
          bad.1,
          line_fails input number names cut.0 bad.0
              (read_before input number names left cut.0 cut.1 cut.2 cut.3 up) bad.2,
        )
        | inl line ↦
            read_on input count todo (texts ++ cut.0 ∷ []) (lines ++ line.0 ∷ []) line.1 cut.1 few
            (omega (arith, counted, length-append texts (cut.0 ∷ [])))
            (more cut.0 line.0 line.1 line.2 line.3) (grown cut.0 cut.1 cut.2)
      ]
    ]
  where
    number : ℕ
    number = length texts + 1

    up : IsReadUpTo input number names left
    up = record {
      count = count;
      few = few;
      within = omega (arith, counted);
      texts = texts;
      lines = lines;
      read = read;
      counted = refl;
      parts = parts;
    }

    more : (text : Text) (line : Line Text) (after : List Text) → IsHistoryLine text line
        → AddsLineNames names line after
        → AreLinesOf (texts ++ text ∷ []) (lines ++ line ∷ []) after
    more text line after is adds = record {
      each = each_more texts lines text line read.each is;
      named = lines_named lines line names after read.named adds;
    }

    grown : (text after : Text) → left ≡ text ++ 10 ∷ after
        → input ≡ header_of count ++ flat_map ended (texts ++ text ∷ []) ++ after
    grown text after cut =
        let prefix = header_of count ++ flat_map ended texts in
        parts ∙ ap (λ (l : Text). prefix ++ l) (ended_cut left text after cut)
        ∙ sym (append_assoc prefix (ended text) after)
        ∙ ap (λ (l : Text). l ++ after)
        (append_assoc (header_of count) (flat_map ended texts) (ended text))
        ∙ ap (λ (l : Text). header_of count ++ l ++ after) (sym (flat_map_push ended texts text))

pub fault_or_history : (input : Text) → Known input
fault_or_history input =
    elim (first_below (λ n. (rest : Text) × (input ≡ header_of n ++ rest))
    (λ n. has_rest (header_of n) input) 1048577) [
      | inl h ↦
          read_on input h.0 h.0 [] [] [] h.2.0 (omega (arith, h.1)) (omega arith) nothing
          (h.2.1 ∙ ap (λ (l : Text). l ++ h.2.0) (sym (append-nil (header_of h.0))))
      | inr none ↦ inr (
        BadHeader,
        λ e. absurd cc,
        λ count rest few e.
            none count (omega arith) (rest, e),
      )
    ]
  where
    nothing : AreLinesOf [] [] []
    nothing = record { each = tt; named = (refl, omega arith) }
