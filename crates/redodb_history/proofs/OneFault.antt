-- A text has no two faults but `Memory`.
use Rattle.std.proofs.Common.{◌≡◌, ◌≢◌, ℕ, ◌<◌, ◌⊎◌, inl, inr, List, [], ◌∷◌, ◌++◌, length, Some, refl, sym, ap, subst, ◌∙◌, arith, append_assoc, length-append}
use Rattle.std.specs.Prelude.{Contains}
use Rattle.std.specs.List.{flat_map}
use Rattle.std.proofs.lemmas.Bool.{cases_order}
use Rattle.redodb_model.specs.Names.{Text}
use Rattle.redodb_model.specs.History.{Line}
use Rattle.redodb_text.specs.declared.fault.LineFault.{LineFault}
use Rattle.redodb_text.specs.Questions.{line_fault}
use Rattle.redodb_text.proofs.FaultOrCommand.{no_fault_in_a_line}
use Rattle.redodb_text.proofs.Steps.{same_found}
use Rattle.redodb_history.specs.Histories.{ended, header_of}
use Rattle.redodb_history.specs.HistoryTexts.{IsHistory, AreHistoryLines}
use Rattle.redodb_history.specs.HistoryFaults.{IsCutAtSpace, IsCutAtArrow, IsSessionWord, HasSession, HasBadSession, HasBadReply, HasBadCommand, IsReadUpTo, IsReadBefore, IsHistoryFault}
use Rattle.redodb_history.specs.Support.HistoryFaults.{IsLineCause}
use Rattle.redodb_history.specs.declared.fault.HistoryFault.{HistoryFault}
use Rattle.redodb_history.specs.declared.fault.HistoryFault.TheVariants.{Memory, BadHeader, Cut, BadSession, BadLine, BadReply}
use Rattle.redodb_history.proofs.CutOnce.{without_from, one_cut_at_space, one_cut_at_arrow}
use Rattle.redodb_history.proofs.HistoryLines.{one_end, one_header, lines_prefix}
use Rattle.redodb_history.proofs.HistorySteps.{texts_count, line_fails}
use Rattle.redodb_history.proofs.NoFault.{no_fault, has_end}
use Rattle.redodb_history.proofs.OneHistory.{same_lines, same_names}

-- a line has one first word
one_word : (line f r g s : Text) → IsCutAtSpace line f r → IsCutAtSpace line g s
    → (f ≡ g) × (r ≡ s)
one_word line f r g s p q = elim q.parts [
  | inl h ↦ one_cut_at_space line g s f r (without_from 32 g q.free) h p
  | inr whole ↦ elim p.parts [
    | inl h ↦
        let same = one_cut_at_space line f r g s (without_from 32 f p.free) h q in
        (sym same.0, sym same.1)
    | inr other ↦ (sym other.0 ∙ whole.0, other.1 ∙ sym whole.1)
  ]
]

no_session : (line rest : Text) → HasBadSession line → HasSession line rest → ⊥
no_session line rest bad has =
    bad.3 has.1 (subst (λ (w : Text). IsSessionWord 64 w has.1)
    (sym (one_word line bad.0 bad.1 has.0 rest bad.2 has.2).0) has.3)

one_rest : (line a b : Text) → HasSession line a → HasSession line b → a ≡ b
one_rest line a b p q = (one_word line p.0 a q.0 b p.2 q.2).1

command_or_reply : (names : List Text) (line : Text) (fault : LineFault)
    → HasBadCommand names line fault → HasBadReply names line → ⊥
command_or_reply names line fault bad other =
    let rest = one_rest line bad.0 other.0 bad.3 other.1 in
    elim other.2 [
      | inl none ↦ none bad.1 bad.2 (sym rest ∙ bad.4.parts)
      | inr some ↦
          let cut = one_cut_at_arrow bad.0 bad.1 bad.2 some.0 some.1 bad.4
          (subst (λ (t : Text). IsCutAtArrow t some.0 some.1) (sym rest) some.4) in
          let fine = no_fault_in_a_line names some.0 some.2 some.3 some.5 some.6 in
          let faulty : line_fault 65536 names some.0 ≡ Some fault =
          ap (line_fault 65536 names) (sym cut.0) ∙ bad.5 in
          absurd cc
    ]

one_command_fault : (names : List Text) (line : Text) (a b : LineFault)
    → HasBadCommand names line a → HasBadCommand names line b → a ≡ b
one_command_fault names line a b p q =
    let rest = one_rest line p.0 q.0 p.3 q.3 in
    let cut = one_cut_at_arrow p.0 p.1 p.2 q.1 q.2 p.4
    (subst (λ (t : Text). IsCutAtArrow t q.1 q.2) (sym rest) q.4) in
    same_found a b (sym p.5 ∙ ap (line_fault 65536 names) cut.0 ∙ q.5)

-- a line has one fault
one_cause : (names : List Text) (number : ℕ) (line : Text) (a b : HistoryFault) → a ≢ Memory
    → b ≢ Memory → IsLineCause names number line a → IsLineCause names number line b → a ≡ b
one_cause names number line Memory b real other p q = absurd (real refl)
one_cause names number line BadHeader b real other p q = absurd p
one_cause names number line Cut b real other p q = absurd p
one_cause names number line a Memory real other p q = absurd (other refl)
one_cause names number line a BadHeader real other p q = absurd q
one_cause names number line a Cut real other p q = absurd q
one_cause names number line (BadSession n) (BadSession m) real other p q =
    ap BadSession (p.0 ∙ sym q.0)
one_cause names number line (BadSession n) (BadLine m fault) real other p q =
    absurd (no_session line q.1.0 p.1 q.1.3)
one_cause names number line (BadSession n) (BadReply m) real other p q =
    absurd (no_session line q.1.0 p.1 q.1.1)
one_cause names number line (BadLine n fault) (BadSession m) real other p q =
    absurd (no_session line p.1.0 q.1 p.1.3)
one_cause names number line (BadLine n fault) (BadLine m wrong) real other p q =
    let number_is = p.0 ∙ sym q.0 in
    let fault_is = one_command_fault names line fault wrong p.1 q.1 in
    λ i. BadLine (number_is i) (fault_is i)
one_cause names number line (BadLine n fault) (BadReply m) real other p q =
    absurd (command_or_reply names line fault p.1 q.1)
one_cause names number line (BadReply n) (BadSession m) real other p q =
    absurd (no_session line p.1.0 q.1 p.1.1)
one_cause names number line (BadReply n) (BadLine m fault) real other p q =
    absurd (command_or_reply names line fault q.1 p.1)
one_cause names number line (BadReply n) (BadReply m) real other p q = ap BadReply (p.0 ∙ sym q.0)

-- what is left begins with a line of this number that has this fault, or is cut
abbrev StopsAt : List Text → ℕ → Text → HistoryFault → Type 0
StopsAt names number left fault =
    ((fault ≡ Cut) × ¬ (Contains left 10))
    ⊎ ((line : Text) × (more : Text) × (left ≡ ended line ++ more) × ¬ (Contains line 10)
    × IsLineCause names number line fault)

-- where the reading stops
record Stops (input : Text) (fault : HistoryFault) : Type 0 where
  number : ℕ
  names : List Text
  left : Text
  up : IsReadUpTo input number names left
  at : StopsAt names number left fault

stops_before : (input : Text) (fault : HistoryFault) (number : ℕ) (names : List Text) (line : Text)
    → IsReadBefore input number names line → IsLineCause names number line fault
    → Stops input fault
stops_before input fault number names line before cause = record {
  number = number;
  names = names;
  left = ended line ++ before.1.0;
  up = before.1.1;
  at = inr (line, before.1.0, refl, before.0, cause);
}

stops : (input : Text) (fault : HistoryFault) → fault ≢ Memory → fault ≢ BadHeader
    → IsHistoryFault input fault → Stops input fault
stops input Memory real read cause = absurd (real refl)
stops input BadHeader real read cause = absurd (read refl)
stops input Cut real read cause = record {
  number = cause.0;
  names = cause.1;
  left = cause.2;
  up = cause.3;
  at = inl (refl, cause.4);
}
stops input (BadSession n) real read cause =
    stops_before input (BadSession n) n cause.0 cause.1 cause.2 (refl, cause.3)
stops input (BadLine n fault) real read cause =
    stops_before input (BadLine n fault) n cause.0 cause.1 cause.2 (refl, cause.3)
stops input (BadReply n) real read cause =
    stops_before input (BadReply n) n cause.0 cause.1 cause.2 (refl, cause.3)

-- and then it is the fault of the whole
fails : (input : Text) (fault : HistoryFault) (number : ℕ) (names : List Text) (left : Text)
    → IsReadUpTo input number names left → StopsAt names number left fault
    → IsHistoryFault input fault
fails input fault number names left up (inl cut) =
    subst (IsHistoryFault input) (sym cut.0) (number, names, left, up, cut.1)
fails input fault number names left up (inr bad) =
    line_fails input number names bad.0 fault (
      bad.3,
      (bad.1, subst (λ (t : Text). IsReadUpTo input number names t) bad.2 up),
    ) bad.4

one_stop : (names : List Text) (number : ℕ) (left : Text) (a b : HistoryFault) → a ≢ Memory
    → b ≢ Memory → StopsAt names number left a → StopsAt names number left b → a ≡ b
one_stop names number left a b real other (inl p) (inl q) = p.0 ∙ sym q.0
one_stop names number left a b real other (inl p) (inr q) =
    absurd (p.1 (subst (λ (t : Text). Contains t 10) (sym q.2) (has_end q.0 q.1)))
one_stop names number left a b real other (inr p) (inl q) =
    absurd (q.1 (subst (λ (t : Text). Contains t 10) (sym p.2) (has_end p.0 p.1)))
one_stop names number left a b real other (inr p) (inr q) =
    let end = one_end p.0 q.0 p.1 q.1 (without_from 10 p.0 p.3) (without_from 10 q.0 q.3)
    (sym p.2 ∙ q.2) in
    one_cause names number p.0 a b real other p.4
    (subst (λ (t : Text). IsLineCause names number t b) (sym end.0) q.4)

-- both are read from one text
same_header : (input : Text) (n m : ℕ) (names others : List Text) (left rest : Text)
    (p : IsReadUpTo input n names left) (q : IsReadUpTo input m others rest)
    → (p.count ≡ q.count) × (flat_map ended p.texts ++ left ≡ flat_map ended q.texts ++ rest)
same_header input n m names others left rest p q =
    one_header p.count q.count (flat_map ended p.texts ++ left) (flat_map ended q.texts ++ rest)
    p.few q.few
    (sym (append_assoc (header_of p.count) (flat_map ended p.texts) left) ∙ sym p.parts ∙ q.parts
    ∙ append_assoc (header_of q.count) (flat_map ended q.texts) rest)

-- if one stops before the other, the other has read its line as one of a history
not_earlier : (input : Text) (a : HistoryFault) (p : Stops input a) (m : ℕ) (others : List Text)
    (rest : Text) → a ≢ Memory → IsReadUpTo input m others rest → p.number < m → ⊥
not_earlier input a p m others rest real q before =
    let up = p.up in
    let long : length q.texts ≡ length q.lines = texts_count q.texts q.lines q.read.each in
    let header = same_header input p.number m p.names others p.left rest up q in
    let whole = header_of (length q.lines) ++ flat_map ended q.texts ++ rest in
    let history : IsHistory whole others q.lines = record {
      few = omega (arith, q.few, q.within, q.counted, long);
      texts = q.texts;
      rest = rest;
      parts = refl;
      read = q.read;
    } in
    let prefix : IsReadUpTo whole p.number p.names p.left = record {
      count = length q.lines;
      few = omega (arith, q.few, q.within, q.counted, long);
      within = omega (arith, q.counted, before, long);
      texts = up.texts;
      lines = up.lines;
      read = up.read;
      counted = up.counted;
      parts = append_assoc (header_of (length q.lines)) (flat_map ended q.texts) rest
          ∙ ap (λ (l : Text). header_of (length q.lines) ++ l) (sym header.1)
          ∙ sym (append_assoc (header_of (length q.lines)) (flat_map ended up.texts) p.left);
    } in
    real (no_fault whole others q.lines a history
    (fails whole a p.number p.names p.left prefix p.at))

-- if both stop at one line, the names and the rest are the same
same_place : (input : Text) (n : ℕ) (names others : List Text) (left rest : Text)
    → IsReadUpTo input n names left → IsReadUpTo input n others rest
    → (names ≡ others) × (left ≡ rest)
same_place input n names others left rest p q =
    let header = same_header input n n names others left rest p q in
    let first = texts_count p.texts p.lines p.read.each in
    let second = texts_count q.texts q.lines q.read.each in
    let long : length p.lines ≡ length q.lines =
    omega (arith, p.counted, q.counted, first, second) in
    let prefix = lines_prefix p.texts q.texts p.lines q.lines left rest p.read.each q.read.each
    (omega (arith, long)) header.1 in
    let lines = same_lines p.lines q.lines prefix.others long prefix.whole in
    let none : length prefix.others ≡ 0 =
    omega (arith, ap length prefix.whole, length-append p.lines prefix.others) in (
      same_names names others p.lines q.lines lines p.read.named q.read.named,
      prefix.parts ∙ ends prefix.texts prefix.others prefix.each none,
    )
  where
    ends : (texts : List Text) (lines : List (Line Text)) → AreHistoryLines texts lines
        → length lines ≡ 0 → flat_map ended texts ++ rest ≡ rest
    ends [] lines each none = refl
    ends (text ∷ texts) [] each none = absurd each
    ends (text ∷ texts) (line ∷ lines) each none = absurd (omega (arith, none))

both_stop : (input : Text) (a b : HistoryFault) → a ≢ Memory → b ≢ Memory → Stops input a
    → Stops input b → a ≡ b
both_stop input a b real other p q = elim (cases_order p.number q.number) [
  | inl same ↦
      let up = subst (λ (n : ℕ). IsReadUpTo input n p.names p.left) same p.up in
      let at = subst (λ (n : ℕ). StopsAt p.names n p.left a) same p.at in
      let place = same_place input q.number p.names q.names p.left q.left up q.up in
      one_stop q.names q.number q.left a b real other
      (subst (λ (x : List Text × Text). StopsAt x.0 q.number x.1 a)
      (λ i. (place.0 i, place.1 i)) at) q.at
  | inr apart ↦ elim apart [
    | inl before ↦ absurd (not_earlier input a p q.number q.names q.left real q.up before)
    | inr after ↦ absurd (not_earlier input b q p.number p.names p.left other p.up after)
  ]
]

-- if a line is read, the header is
headed : (input : Text) (fault : HistoryFault) → Stops input fault
    → ¬ (IsHistoryFault input BadHeader)
headed input fault stop bad =
    let up = stop.up in
    bad up.count (flat_map ended up.texts ++ stop.left) up.few
    (up.parts ∙ append_assoc (header_of up.count) (flat_map ended up.texts) stop.left)

is_header : (fault : HistoryFault) → (fault ≡ BadHeader) ⊎ (fault ≢ BadHeader)
is_header BadHeader = inl refl
is_header fault = inr (λ e. absurd cc)

pub one_fault : (input : Text) (a b : HistoryFault) → a ≢ Memory → b ≢ Memory
    → IsHistoryFault input a → IsHistoryFault input b → a ≡ b
one_fault input a b real other p q = elim (is_header a) [
  | inl first ↦ elim (is_header b) [
    | inl second ↦ first ∙ sym second
    | inr read ↦
        absurd (headed input b (stops input b other read q) (subst (IsHistoryFault input) first p))
  ]
  | inr read ↦ elim (is_header b) [
    | inl second ↦
        absurd (headed input a (stops input a real read p) (subst (IsHistoryFault input) second q))
    | inr too ↦
        both_stop input a b real other (stops input a real read p) (stops input b other too q)
  ]
]
