-- After one history, one line is answered in one way.
use Rattle.std.proofs.Common.{◌≡◌, ◌≢◌, ℕ, ◌+◌, List, [], ◌∷◌, ◌++◌, Some, length, refl, sym, ap, ◌∙◌, subst, inl, inr}
use Rattle.std.specs.Prelude.{decimal}
use Rattle.std.specs.List.{AllByRecursion, flat_map}
use Rattle.redodb_model.specs.Names.{Text, texts}
use Rattle.redodb_model.specs.State.{State, Records, empty}
use Rattle.redodb_model.specs.Command.{Command}
use Rattle.redodb_model.specs.Deps.{Deps, AreDeps}
use Rattle.redodb_model.specs.Users.{Users, AreUsers}
use Rattle.redodb_model.specs.Reply.{Okay}
use Rattle.redodb_model.specs.Step.{Answers}
use Rattle.redodb_model.specs.History.{Line, left_by, part_of}
use Rattle.redodb_model.specs.Closing.{ClosesAfter}
use Rattle.redodb_model.proofs.Lists.{one_list}
use Rattle.redodb_model.proofs.Texts.{texts_are_names}
use Rattle.redodb_model.proofs.Unique.{one_answer}
use Rattle.redodb_text.specs.Faults.{fault_word_of}
use Rattle.redodb_text.specs.Grammar.{IsCommandLine}
use Rattle.redodb_text.specs.Inquiries.{asked_fault, inquiry_text_of}
use Rattle.redodb_text.specs.declared.fault.LineFault.{LineFault}
use Rattle.redodb_text.specs.declared.inquiries.Inquiry.TheVariants.{Why}
use Rattle.redodb_text.proofs.LineLaws.{one_command}
use Rattle.redodb_history.specs.Histories.{line_text_of}
use Rattle.redodb_live.specs.Answers.{Answer, Cause, Rows, Uses, Standing, IsAnswer, answer_line, inquiry_of, names_line}
use Rattle.redodb_live.specs.Lines.{names_after}
use Rattle.redodb_keeping.specs.Rounds.{Round, IsAnswered, IsEnded, IsInquired, IsListed, IsFaulty, Asks, IsFaultWord, end_text_of, end_word, fault_text_of, names_word}
use Rattle.redodb_conversation.specs.Support.Laws.{Agrees, AsksWhy, HasSufficed}
use Rattle.redodb_keeping.specs.Support.Steps.{IsFaultLine}
use Rattle.redodb_conversation.proofs.LawfulTexts.{asks_one, one_inquiry}

-- what is closed after a session's own lines
closes_once : (s : ℕ) (own a b : List (Line Text))
    → AllByRecursion (λ line. (line.session ≡ s) × (line.reply ≡ Okay)) a
    → AllByRecursion (λ line. (line.session ≡ s) × (line.reply ≡ Okay)) b
    → ClosesAfter texts own a → ClosesAfter texts own b → a ≡ b
closes_once s own [] [] p q c d = refl
closes_once s own [] (y ∷ b) p q c d = absurd (let e = sym c ∙ d.0 in cc)
closes_once s own (x ∷ a) [] p q c d = absurd (let e = sym d ∙ c.0 in cc)
closes_once s own (x ∷ a) (y ∷ b) p q c d =
    let some : Some x.command ≡ Some y.command = sym c.0 ∙ d.0 in
    let command : x.command ≡ y.command = cc in
    let session : x.session ≡ y.session = p.0.0 ∙ sym q.0.0 in
    let reply : x.reply ≡ y.reply = p.0.1 ∙ sym q.0.1 in
    let first : x ≡ y =
    λ i. record { session = session i; command = command i; reply = reply i } in
    let others = closes_once s (own ++ y ∷ []) a b p.1 q.1
    (subst (λ (line : Line Text). ClosesAfter texts (own ++ line ∷ []) a) first c.1) d.1 in
    λ i. first i ∷ others i

one_deps : (r : Records Text) (t : Text) (a b : Deps Text) → AreDeps texts r t a
    → AreDeps texts r t b → a ≡ b
one_deps r t a b p q =
    let change = one_list texts_are_names a.change b.change p.change q.change in
    let created = one_list texts_are_names a.created b.created p.created q.created in
    let always : a.always ≡ b.always = p.always ∙ sym q.always in
    λ i. record { change = change i; created = created i; always = always i }

one_users : (r : Records Text) (n : Text) (a b : Users Text) → AreUsers texts r n a
    → AreUsers texts r n b → a ≡ b
one_users r n a b p q =
    let change = one_list texts_are_names a.change b.change p.change q.change in
    let created = one_list texts_are_names a.created b.created p.created q.created in
    λ i. record { change = change i; created = created i }

-- a question but `why` has one answer
one_true_answer : (st : State Text) (name : Text) (a b : Answer) → inquiry_of a ≡ inquiry_of b
    → inquiry_of a ≢ Why → IsAnswer st name a → IsAnswer st name b → a ≡ b
one_true_answer st name (Cause found) b e other p q = absurd (other refl)
one_true_answer st name a (Cause found) e other p q = absurd (other e)
one_true_answer st name (Rows a) (Rows b) e other p q = ap Rows (one_deps st.records name a b p q)
one_true_answer st name (Uses a) (Uses b) e other p q = ap Uses (one_users st.records name a b p q)
one_true_answer st name (Standing a b c) (Standing d f g) e other p q =
    let state = p.0 ∙ sym q.0 in
    let holder = p.1 ∙ sym q.1 in
    let file = p.2 ∙ sym q.2 in
    λ i. Standing (state i) (holder i) (file i)
one_true_answer st name a b e other p q = absurd cc

module _ (before : List (Line Text)) (a b : Round) (same : a.received ≡ b.received) where
  asked_both : (s t : ℕ) (text other : Text) → Asks a.received s text → Asks b.received t other
      → (s ≡ t) × (text ≡ other)
  asked_both s t text other p q =
      asks_one b.received s t text other (subst (λ h. Asks h s text) same p) q

  pub answered_agree : IsAnswered before a → IsAnswered before b → Agrees a b
  answered_agree p q =
      let st = left_by texts empty before in
      let asked = asked_both p.line.session q.line.session p.text q.text p.asks q.asks in
      let session : p.line.session ≡ q.line.session = asked.0 in
      let command : p.line.command ≡ q.line.command =
      one_command q.text p.line.command q.line.command
      (subst (λ t. IsCommandLine t p.line.command) asked.1 p.parsed) q.parsed in
      let reply : p.line.reply ≡ q.line.reply =
      one_answer texts_are_names st q.line.session q.line.command p.line.reply q.line.reply
      (subst (λ (at : ℕ × Command Text). Answers texts st at.0 at.1 p.line.reply)
      (λ i. (session i, command i)) p.answers) q.answers in
      let line : p.line ≡ q.line =
      λ i. record { session = session i; command = command i; reply = reply i } in
      record {
        lines = p.lines_are ∙ ap (λ (l : Line Text). l ∷ []) line ∙ sym q.lines_are;
        output = λ other. p.output_is ∙ ap line_text_of line ∙ sym q.output_is;
      }

  pub ended_agree : IsEnded before a → IsEnded before b → Agrees a b
  ended_agree p q =
      let session = (asked_both p.session q.session end_word end_word p.asks q.asks).0 in
      let lines = closes_once q.session (part_of q.session before) a.lines b.lines
      (subst (λ s. AllByRecursion (λ line. (line.session ≡ s) × (line.reply ≡ Okay)) a.lines)
      session p.accepted) q.accepted
      (subst (λ s. ClosesAfter texts (part_of s before) a.lines) session p.closes) q.closes in
      record {
        lines = lines;
        output = λ other. p.output_is
            ∙ (λ i. flat_map line_text_of (lines i) ++ end_text_of (session i)) ∙ sym q.output_is;
      }

  pub inquired_agree : IsInquired before a → IsInquired before b → Agrees a b
  inquired_agree p q = record { lines = p.none ∙ sym q.none; output = output }
    where
      asked : (p.session ≡ q.session)
          × (inquiry_text_of p.inquiry p.name ≡ inquiry_text_of q.inquiry q.name)
      asked = asked_both p.session q.session (inquiry_text_of p.inquiry p.name)
          (inquiry_text_of q.inquiry q.name) p.asks q.asks

      about : (p.inquiry ≡ q.inquiry) × (p.name ≡ q.name)
      about = one_inquiry p.inquiry q.inquiry p.name q.name asked.1

      no_why : ¬ (AsksWhy a.received) → inquiry_of p.answers.answer ≢ Why
      no_why other e =
          other (
            p.session,
            p.name,
            subst (λ inquiry. Asks a.received p.session (inquiry_text_of inquiry p.name))
                (sym p.answers.asked ∙ e) p.asks,
          )

      answers : ¬ (AsksWhy a.received) → p.answers.answer ≡ q.answers.answer
      answers other =
          let st = left_by texts empty before in
          one_true_answer st q.name p.answers.answer q.answers.answer
          (p.answers.asked ∙ about.0 ∙ sym q.answers.asked) (no_why other)
          (subst (λ name. IsAnswer st name p.answers.answer) about.1 p.answers.is) q.answers.is

      output : ¬ (AsksWhy a.received) → a.output ≡ b.output
      output other =
          let answer = answers other in
          p.answers.line_is
          ∙ (λ i. answer_line (asked.0 i) (about.1 i) (answer i)) ∙ sym q.answers.line_is

  pub listed_agree : IsListed before a → IsListed before b → Agrees a b
  listed_agree p q =
      let session = (asked_both p.session q.session names_word names_word p.asks q.asks).0 in
      record {
        lines = p.none ∙ sym q.none;
        output = λ other. p.answers
            ∙ ap (λ s. names_line s (names_after before) (left_by texts empty before)) session
            ∙ sym q.answers;
      }

-- the text has a fault
abbrev pub HasFault : List (Line Text) → Text → Text → Type 0
HasFault before text word =
    (fault : LineFault) × (text ≢ end_word) × (text ≢ names_word)
    × (asked_fault 16777216 (names_after before) text ≡ Some fault)
    × (word ≡ fault_word_of fault)

-- where memory and counters sufficed
pub has_fault : (before : List (Line Text)) (round : Round) (s : ℕ) (text word : Text)
    → HasSufficed round → round.output ≡ fault_text_of (decimal (s + 1)) word
    → IsFaultWord (length before) (names_after before) text word → HasFault before text word
has_fault before round s text word room e (inl is) = is
has_fault before round s text word room e (inr (inl is)) =
    absurd ((room s).0 (e ∙ ap (fault_text_of (decimal (s + 1))) is))
has_fault before round s text word room e (inr (inr is)) =
    absurd ((room s).1 (e ∙ ap (fault_text_of (decimal (s + 1))) is.3))

one_fault : (before : List (Line Text)) (text u v : Text) → HasFault before text u
    → HasFault before text v → u ≡ v
one_fault before text u v p q =
    let some : Some p.0 ≡ Some q.0 = sym p.3 ∙ q.3 in
    let fault : p.0 ≡ q.0 = cc in
    p.4 ∙ ap fault_word_of fault ∙ sym q.4

-- the cause of a fault's line
abbrev pub FaultCause : List (Line Text) → Round → Type 0
FaultCause before round =
    IsFaultLine (length before) (names_after before) round.received round.output

module _ (before : List (Line Text)) (a b : Round) (same : a.received ≡ b.received)
    (room : HasSufficed a) (room' : HasSufficed b)
  where
    same_cause : FaultCause before a → FaultCause before b → a.output ≡ b.output
    same_cause (inl p) (inl q) = p.1 ∙ sym q.1
    same_cause (inl p) (inr (s, text, word, asks, is, e)) =
        absurd (p.0 s text (subst (λ h. Asks h s text) (sym same) asks))
    same_cause (inr (s, text, word, asks, is, e)) (inl q) =
        absurd (q.0 s text (subst (λ h. Asks h s text) same asks))
    same_cause (inr (s, text, u, asks, is, e)) (inr (t, other, v, asks', is', e')) =
        let asked = asked_both before a b same s t text other asks asks' in
        let word : u ≡ v =
        one_fault before other u v
        (subst (λ x. HasFault before x u) asked.1 (has_fault before a s text u room e is))
        (has_fault before b t other v room' e' is') in
        e ∙ (λ i. fault_text_of (decimal (asked.0 i + 1)) (word i)) ∙ sym e'

    pub faulty_agree : IsFaulty before a → IsFaulty before b → Agrees a b
    faulty_agree p q = record {
      lines = p.none ∙ sym q.none;
      output = λ other. same_cause p.cause q.cause;
    }
