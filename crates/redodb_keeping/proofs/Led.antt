-- Steps from the state after a history are rounds after that history.
use Rattle.std.proofs.Common.{◌≡◌, ℕ, ◌≤◌, Bool, true, false, cond, List, [], ◌∷◌, ◌++◌, length, refl, sym, ap, ◌∙◌, subst, append-nil, append_assoc, length-append, inl, inr, arith}
use Rattle.std.specs.List.{AllByRecursion, flat_map}
use Rattle.std.specs.Cmp.Lexicographic.{nat_list_cmp_total}
use Rattle.std.proofs.lemmas.List.Concat.{flat_map-append}
use Rattle.redodb_names.specs.Names.{has}
use Rattle.redodb_model.specs.Names.{Text, texts}
use Rattle.redodb_model.specs.State.{State, empty, is_building, target_state}
use Rattle.redodb_model.specs.Command.{names_in, Failed, Unlock}
use Rattle.redodb_model.specs.Reply.{Okay}
use Rattle.redodb_model.specs.Step.{Answers, after}
use Rattle.redodb_model.specs.History.{Line, Legal, left_by, part_of}
use Rattle.redodb_model.specs.Closing.{ClosesAfter}
use Rattle.redodb_model.specs.Support.Ending.{AreHeld, okay_line, closing_lines_of}
use Rattle.redodb_model.proofs.Ending.{closes_by_state}
use Rattle.redodb_model.proofs.OneMore.{left_by-append, legal_more}
use Rattle.redodb_model.proofs.Texts.{texts_are_names}
use Rattle.redodb_text.specs.Grammar.{with_names}
use Rattle.redodb_text.proofs.ScriptParts.{with_names-append}
use Rattle.redodb_history.proofs.KnownNames.{AreKnown, with_names-known}
use Rattle.redodb_live.specs.Answers.{AnswersInquiry, names_line}
use Rattle.redodb_live.specs.Lines.{names_after}
use Rattle.redodb_keeping.specs.Rounds.{Round, IsRound, IsAnswered, IsEnded, IsInquired, IsListed, IsFaulty, AreRounds, lines_in, IsFaultWord}
use Rattle.redodb_keeping.specs.Support.Steps.{Known, LeadsTo, Answering, Ending, Inquiring, Listing, IsFaultLine, Refusing, IsStep, AreSteps}

-- the names after more lines
names_more : (before more : List (Line Text)) → names_after (before ++ more)
    ≡ with_names (names_after before) (flat_map (λ (l : Line Text). names_in l.command) more)
names_more before more =
    let own = λ (l : Line Text). names_in l.command in
    ap (with_names []) (flat_map-append own before more)
    ∙ with_names-append [] (flat_map own before) (flat_map own more)

abbrev IsClosing : ℕ → Line Text → Type 0
IsClosing s line = (line.session ≡ s) × (line.reply ≡ Okay)

abbrev line_names : Line Text → List Text
line_names line = names_in line.command

-- the closing lines of a target, and more
abbrev lets_go : ℕ → Text → Bool → List (Line Text) → List (Line Text)
lets_go s t building more =
    (cond building (okay_line s (Failed t) ∷ []) [] ++ okay_line s (Unlock t) ∷ []) ++ more

each_with : (s : ℕ) (t : Text) (more : List (Line Text)) (b : Bool)
    → AllByRecursion (IsClosing s) more → AllByRecursion (IsClosing s) (lets_go s t b more)
each_with s t more true rest = ((refl, refl), ((refl, refl), rest))
each_with s t more false rest = ((refl, refl), rest)

known_with : (names : List Text) (s : ℕ) (t : Text) (more : List (Line Text)) (b : Bool)
    → has names t ≡ true → AreKnown names (flat_map line_names more)
    → AreKnown names (flat_map line_names (lets_go s t b more))
known_with names s t more true known rest = (known, (known, rest))
known_with names s t more false known rest = (known, rest)

-- each closing line is the session's, and accepted
closing_each : (s : ℕ) (st : State Text) (ts : List Text)
    → AllByRecursion (IsClosing s) (closing_lines_of s st ts)
closing_each s st [] = tt
closing_each s st (t ∷ ts) =
    each_with s t (closing_lines_of s st ts) (is_building (target_state st.records t))
    (closing_each s st ts)

-- its names are known
closing_known : (names : List Text) (s : ℕ) (st : State Text) (ts : List Text) → AreKnown names ts
    → AreKnown names (flat_map line_names (closing_lines_of s st ts))
closing_known names s st [] known = tt
closing_known names s st (t ∷ ts) known =
    known_with names s t (closing_lines_of s st ts) (is_building (target_state st.records t))
    known.0 (closing_known names s st ts known.1)

-- what is worn after some calls is so after more
word_later : (calls later : ℕ) (names : List Text) (text word : Text) → calls ≤ later
    → IsFaultWord calls names text word → IsFaultWord later names text word
word_later calls later names text word le (inl fault) = inl fault
word_later calls later names text word le (inr (inl memory)) = inr (inl memory)
word_later calls later names text word le (inr (inr (no_end, no_names, none, is, worn))) =
    inr (inr (no_end, no_names, none, is, omega (arith, worn, le)))

module _ (before : List (Line Text)) (old new : Known) (round : Round) (led : LeadsTo before old)
  where
    -- the state after a step, if its lines are known
    led_by : (lines : List (Line Text)) → round.lines ≡ lines → LeadsTo (before ++ lines) new
        → LeadsTo (before ++ round.lines) new
    led_by lines e is = subst (λ ls. LeadsTo (before ++ ls) new) (sym e) is

    answering_names : (step : Answering old new round)
        → new.names ≡ names_after (before ++ step.line ∷ [])
    answering_names step =
        let own = names_in step.line.command in
        step.names_are ∙ ap (λ ns. with_names ns own) led.names_are
        ∙ ap (with_names (names_after before)) (sym (append-nil own))
        ∙ sym (names_more before (step.line ∷ []))

    answering_answers : (step : Answering old new round)
        → Answers texts (left_by texts empty before) step.line.session step.line.command
        step.line.reply
    answering_answers step =
        subst (λ st. Answers texts st step.line.session step.line.command step.line.reply)
        led.state_is step.answers

    answering_round : Answering old new round → IsAnswered before round
    answering_round step = record {
      line = step.line;
      text = step.text;
      asks = step.asks;
      parsed = step.parsed;
      few_names = subst (λ ns. length ns ≤ 16777216) (answering_names step) step.few_names;
      answers = answering_answers step;
      lines_are = step.lines_are;
      output_is = step.output_is;
    }

    answering_leads : Answering old new round → LeadsTo (before ++ round.lines) new
    answering_leads step =
        let line = step.line in
        led_by (line ∷ []) step.lines_are (record {
          legal = legal_more texts empty before line led.legal (answering_answers step);
          names_are = answering_names step;
          state_is = step.state_is
              ∙ ap (λ st. after texts st line.session line.command) led.state_is
              ∙ sym (left_by-append texts empty before (line ∷ []));
          few_calls = omega (
            arith,
            step.calls_are,
            led.few_calls,
            length-append before (line ∷ []),
          );
        })

    refusing_round : Refusing old new round → IsFaulty before round
    refusing_round step = record { none = step.none; cause = cause step.cause }
      where
        cause : IsFaultLine old.calls old.names round.received round.output
            → IsFaultLine (length before) (names_after before) round.received round.output
        cause (inl none) = inl none
        cause (inr (s, text, word, asks, is, output)) =
            inr (
              s,
              text,
              word,
              asks,
              subst (λ ns. IsFaultWord (length before) ns text word) led.names_are
                  (word_later old.calls (length before) old.names text word led.few_calls is),
              output,
            )

    -- a step that changes nothing
    unchanged_leads : round.lines ≡ [] → new ≡ old → LeadsTo (before ++ round.lines) new
    unchanged_leads none same =
        led_by [] none (subst (λ ls. LeadsTo ls new) (sym (append-nil before))
        (subst (LeadsTo before) (sym same) led))

    inquiring_round : Inquiring old new round → IsInquired before round
    inquiring_round step = record {
      session = step.session;
      inquiry = step.inquiry;
      name = step.name;
      asks = step.asks;
      fits = step.fits;
      answers = subst (λ st. AnswersInquiry st step.session step.inquiry step.name round.output)
          led.state_is step.answers.is;
      none = step.none;
    }

    listing_round : Listing old new round → IsListed before round
    listing_round step = record {
      session = step.session;
      asks = step.asks;
      answers = step.answers
          ∙ (λ i. names_line step.session (led.names_are i) (led.state_is i));
      none = step.none;
    }

    -- the lines of an end, by the state after the history before it
    closing_is : (step : Ending old new round) → round.lines
        ≡ closing_lines_of step.session (left_by texts empty before) step.held
    closing_is step =
        step.lines_are
        ∙ ap (λ st. closing_lines_of step.session st step.held) led.state_is

    closing_laws : (step : Ending old new round)
        → ClosesAfter texts (part_of step.session before)
        (closing_lines_of step.session (left_by texts empty before) step.held)
        × Legal texts
        (before ++ closing_lines_of step.session (left_by texts empty before) step.held)
    closing_laws step =
        closes_by_state texts_are_names nat_list_cmp_total step.session before step.held led.legal
        (subst (λ st. AreHeld texts step.session st step.held) led.state_is step.are_held)

    pub ending_round : Ending old new round → IsEnded before round
    ending_round step = record {
      session = step.session;
      asks = step.asks;
      accepted = subst (AllByRecursion (IsClosing step.session)) (sym (closing_is step))
          (closing_each step.session (left_by texts empty before) step.held);
      closes = subst (ClosesAfter texts (part_of step.session before)) (sym (closing_is step))
          (closing_laws step).0;
      output_is = step.output_is;
    }

    ending_names : (step : Ending old new round) → names_after (before ++ round.lines) ≡ old.names
    ending_names step =
        names_more before round.lines
        ∙ ap (λ ns. with_names ns (flat_map line_names round.lines)) (sym led.names_are)
        ∙ with_names-known old.names (flat_map line_names round.lines)
        (subst (λ ls. AreKnown old.names (flat_map line_names ls)) (sym step.lines_are)
        (closing_known old.names step.session old.state step.held step.known))

    pub ending_leads : Ending old new round → LeadsTo (before ++ round.lines) new
    ending_leads step = record {
      legal = subst (λ ls. Legal texts (before ++ ls)) (sym (closing_is step))
          (closing_laws step).1;
      names_are = step.names_are ∙ sym (ending_names step);
      state_is = step.state_is ∙ ap (λ st. left_by texts st round.lines) led.state_is
          ∙ sym (left_by-append texts empty before round.lines);
      few_calls =
          omega (arith, step.calls_are, led.few_calls, length-append before round.lines);
    }

    step_is_round : IsStep old new round → IsRound before round
    step_is_round (inl step) = inl (answering_round step)
    step_is_round (inr (inl step)) = inr (inl (ending_round step))
    step_is_round (inr (inr (inl step))) = inr (inr (inl (inquiring_round step)))
    step_is_round (inr (inr (inr (inl step)))) = inr (inr (inr (inl (listing_round step))))
    step_is_round (inr (inr (inr (inr step)))) = inr (inr (inr (inr (refusing_round step))))

    step_leads : IsStep old new round → LeadsTo (before ++ round.lines) new
    step_leads (inl step) = answering_leads step
    step_leads (inr (inl step)) = ending_leads step
    step_leads (inr (inr (inl step))) = unchanged_leads step.none step.same
    step_leads (inr (inr (inr (inl step)))) = unchanged_leads step.none step.same
    step_leads (inr (inr (inr (inr step)))) = unchanged_leads step.none step.same

-- steps from the state after a history are rounds after it, and extend it by their lines
pub steps_are_rounds : (before : List (Line Text)) (old new : Known) (rounds : List Round)
    → LeadsTo before old → AreSteps old new rounds → AreRounds before rounds
steps_are_rounds before old new [] led same = tt
steps_are_rounds before old new (round ∷ rounds) led (middle, step, steps) = (
  step_is_round before old middle round led step,
  steps_are_rounds (before ++ round.lines) middle new rounds
      (step_leads before old middle round led step) steps,
)

pub steps_lead : (before : List (Line Text)) (old new : Known) (rounds : List Round)
    → LeadsTo before old → AreSteps old new rounds → LeadsTo (before ++ lines_in rounds) new
steps_lead before old new [] led same = subst (λ ls. LeadsTo ls new) (sym (append-nil before))
    (subst (LeadsTo before) (sym same) led)
steps_lead before old new (round ∷ rounds) led (middle, step, steps) =
    subst (λ ls. LeadsTo ls new) (append_assoc before round.lines (lines_in rounds))
    (steps_lead (before ++ round.lines) middle new rounds
    (step_leads before old middle round led step) steps)
