-- The answer to a line, if it fits.
use Rattle.std.proofs.Common.{◌≡◌, ℕ, ◌+◌, Bool, cond, [], ◌∷◌, ◌++◌, refl, sym, ap, ◌∙◌, subst, append-nil, inl, inr, length, Some, None}
use Rattle.std.specs.Borrow.{Bor}
use Rattle.std.specs.List.{flat_map}
use Rattle.redodb_model.specs.Names.{Text, texts}
use Rattle.redodb_model.specs.Command.{names_in}
use Rattle.redodb_model.specs.History.{left_by}
use Rattle.redodb_model.specs.Step.{Answers, after}
use Rattle.redodb_text.specs.Grammar.{with_names}
use Rattle.redodb_text.specs.Faults.{fault_word_of}
use Rattle.redodb_text.specs.Inquiries.{inquiry_text_of, inquiry_fault, asked_fault}
use Rattle.redodb_text.specs.Questions.{line_fault}
use Rattle.redodb_text.specs.declared.fault.LineFault.{LineFault}
use Rattle.redodb_text.specs.declared.inquiries.Inquiry.{Inquiry}
use Rattle.redodb_text.proofs.Inquired.{asked_of_command}
use Rattle.redodb_history.specs.Histories.{line_text_of}
use Rattle.redodb_live.specs.Answers.{names_line}
use Rattle.redodb_live.specs.Lines.{lines_text_of}
use Rattle.redodb_live.specs.Support.AnswerForms.{AnswersInForm}
use Rattle.redodb_live.specs.Support.LiveState.{LiveState, state_in, calls_in, IsAsKnown}
use Rattle.redodb_live.specs.Support.Appended.{AnswersText, EndsSession, IsUnansweredFor}
use Rattle.redodb_live.specs.Support.AnswerFaults.{WouldAnswer, WouldEnd, IsAnswerFaultFor, IsUnendedFor, IsUnwrittenFor}
use Rattle.redodb_live.specs.declared.fault.Unanswered.{Unanswered as Why}
use Rattle.redodb_live.specs.declared.fault.Unanswered.TheVariants.{Memory, Worn, Fault}
use Rattle.redodb_live.specs.declared.fault.AnswerFault.{AnswerFault}
use Rattle.redodb_live.specs.declared.fault.AnswerFault.TheVariants.{Unanswered, TooLong}
use Rattle.redodb_keeping.specs.Rounds.{Round, Asks, IsFaultWord, end_word, end_text_of, names_word}
use Rattle.redodb_keeping.specs.Support.Sending.{refusal_word_of}
use Rattle.redodb_conversation.specs.declared.replying.Replied.TheVariants as replies
use Rattle.redodb_keeping.specs.Support.Steps.{Known, Answering, Ending, IsFaultLine, Refusing, IsStep, known_of}
use Rattle.redodb_conversation.specs.Support.Requests.{Requests, RequestsBadly}
use Rattle.redodb_conversation.specs.declared.request.Request.TheVariants as requests
use Rattle.redodb_conversation.specs.Support.Replies.{IsReplied, AppendsRound, WouldReply, IsPutOffFor, IsUndoneFor, IsInquiryFaultFor}
use Rattle.redodb_conversation.proofs.LoggedPrefixes.{logs_prefix}
use Rattle.redodb_keeping.proofs.EndedAll.{as_known}
use Rattle.redodb_keeping.proofs.HeldNames.{held_are_known}
use Rattle.redodb_conversation.proofs.Steps.{all_change, one_logged}

pub done_is_step : (old new : Known) (round : Round) → IsReplied replies.Done old new round
    → IsStep old new round
done_is_step old new round (inl is) = inl is
done_is_step old new round (inr (inl is)) = inr (inl is)
done_is_step old new round (inr (inr (inl is))) = inr (inr (inl is))
done_is_step old new round (inr (inr (inr is))) = inr (inr (inr (inl is)))

module _ (old : LiveState) (received : Text) (session : ℕ) where
  -- a command that was answered
  pub answered_round : (new : LiveState) (text output output' logged logged' : Text)
      → AnswersText old new session text output output' logged logged' → Asks received session text
      → AppendsRound replies.Done (known_of old) (known_of new) received output output' logged
      logged'
  answered_round new text output output' logged logged' is asks =
      let line = is.line in
      let same = is.is.session_is in
      let round : Round =
      record { received = received; lines = line ∷ []; output = line_text_of line } in
      let step : Answering (known_of old) (known_of new) round = record {
        line = line;
        text = text;
        asks = subst (λ s. Asks received s text) (sym same) asks;
        parsed = is.is.parsed;
        names_are = is.is.named.0
            ∙ ap (with_names old.names) (append-nil (names_in line.command));
        few_names = is.is.named.1;
        answers = subst (λ s. Answers texts (state_in old) s line.command line.reply) (sym same)
            is.is.answers;
        state_is = is.is.after_is
            ∙ ap (λ s. after texts (state_in old) s line.command) (sym same);
        calls_are = is.appended.calls;
        lines_are = refl;
        output_is = refl;
      } in
      record {
        round = round;
        received_is = refl;
        step = inl step;
        writes = is.appended.writes;
        logs = is.appended.logs ∙ ap (λ t. logged ++ t) (one_logged (state_in old) line);
        prefix = logs_prefix (known_of old) (known_of new) round (inl step);
      }

  -- a session that ended
  pub ended_round : (new : LiveState) (output output' logged logged' : Text)
      → EndsSession old new session output output' logged logged' → Asks received session end_word
      → AppendsRound replies.Done (known_of old) (known_of new) received output output' logged
      logged'
  ended_round new output output' logged logged' is asks =
      let lines = is.lines in
      let round : Round = record {
        received = received;
        lines = lines;
        output = flat_map line_text_of lines ++ end_text_of session;
      } in
      let step : Ending (known_of old) (known_of new) round = record {
        session = session;
        asks = asks;
        held = is.is.targets;
        are_held = is.is.held;
        known = held_are_known old session is.is.targets is.is.held;
        names_are = is.names;
        state_is = is.is.left;
        calls_are = is.calls;
        lines_are = is.is.lines_are;
        output_is = refl;
      } in
      record {
        round = round;
        received_is = refl;
        step = inr (inl step);
        writes = is.writes;
        logs = is.logs
            ∙ ap (λ ls. logged ++ lines_text_of ls) (sym (all_change (state_in old) session
            is.is.targets lines is.is.lines_are));
        prefix = logs_prefix (known_of old) (known_of new) round (inr (inl step));
      }

  -- an answer about a name
  pub inquired_round : (new : LiveState) → IsAsKnown old new
      → (text : Text) (inquiry : Inquiry) (name line output output' logged : Text)
      → Asks received session text → text ≡ inquiry_text_of inquiry name → inquiry_fault text ≡ None
      → AnswersInForm (state_in old) session inquiry name line → output' ≡ output ++ line
      → AppendsRound replies.Done (known_of old) (known_of new) received output output' logged
      logged
  inquired_round new same text inquiry name line output output' logged asks is fits answers e =
      record {
        round = record { received = received; lines = []; output = line };
        received_is = refl;
        step = inr (inr (inl (record {
          session = session;
          inquiry = inquiry;
          name = name;
          asks = subst (Asks received session) is asks;
          fits = subst (λ t. inquiry_fault t ≡ None) is fits;
          answers = answers;
          same = as_known old new same;
          none = refl;
        })));
        writes = e;
        logs = sym (append-nil logged);
        prefix = (line, refl);
      }

  -- the answer about all names
  pub listed_round : (new : LiveState) → IsAsKnown old new → (output output' logged : Text)
      → Asks received session names_word
      → output' ≡ output ++ names_line session old.names (state_in old)
      → AppendsRound replies.Done (known_of old) (known_of new) received output output' logged
      logged
  listed_round new same output output' logged asks e =
      let line = names_line session old.names (state_in old) in
      record {
        round = record { received = received; lines = []; output = line };
        received_is = refl;
        step = inr (inr (inr (record {
          session = session;
          asks = asks;
          answers = refl;
          same = as_known old new same;
          none = refl;
        })));
        writes = e;
        logs = sym (append-nil logged);
        prefix = (line, refl);
      }

  -- and what the answer would be
  pub would_answer : (text : Text) (size : ℕ) → WouldAnswer old session text size
      → Asks received session text → WouldReply (known_of old) received size
  would_answer text size would asks =
      let line = would.line in
      let same = would.session_is in
      record {
        round = record { received = received; lines = line ∷ []; output = line_text_of line };
        next = record {
          names = would.names_after;
          state = after texts (state_in old) session line.command;
          calls = calls_in old + 1;
        };
        received_is = refl;
        step = inl (record {
          line = line;
          text = text;
          asks = subst (λ s. Asks received s text) (sym same) asks;
          parsed = would.parsed;
          names_are = would.named.0
              ∙ ap (with_names old.names) (append-nil (names_in line.command));
          few_names = would.named.1;
          answers = subst (λ s. Answers texts (state_in old) s line.command line.reply) (sym same)
              would.answers;
          state_is = ap (λ s. after texts (state_in old) s line.command) (sym same);
          calls_are = refl;
          lines_are = refl;
          output_is = refl;
        });
        size_is = would.size_is;
      }

  pub would_end : (size : ℕ) → WouldEnd old session size → Asks received session end_word
      → WouldReply (known_of old) received size
  would_end size would asks =
      let lines = would.lines in record {
        round = record {
          received = received;
          lines = lines;
          output = flat_map line_text_of lines ++ end_text_of session;
        };
        next = record {
          names = old.names;
          state = left_by texts (state_in old) lines;
          calls = calls_in old + length lines;
        };
        received_is = refl;
        step = inr (inl (record {
          session = session;
          asks = asks;
          held = would.is.targets;
          are_held = would.is.held;
          known = held_are_known old session would.is.targets would.is.held;
          names_are = refl;
          state_is = refl;
          calls_are = refl;
          lines_are = would.is.lines_are;
          output_is = refl;
        }));
        size_is = would.size_is;
      }

  pub would_inquire : (text : Text) (inquiry : Inquiry) (name line : Text) (size : ℕ)
      → text ≡ inquiry_text_of inquiry name → inquiry_fault text ≡ None
      → AnswersInForm (state_in old) session inquiry name line → size ≡ length line
      → Asks received session text → WouldReply (known_of old) received size
  would_inquire text inquiry name line size is fits answers e asks = record {
    round = record { received = received; lines = []; output = line };
    next = known_of old;
    received_is = refl;
    step = inr (inr (inl (record {
      session = session;
      inquiry = inquiry;
      name = name;
      asks = subst (Asks received session) is asks;
      fits = subst (λ t. inquiry_fault t ≡ None) is fits;
      answers = answers;
      same = refl;
      none = refl;
    })));
    size_is = e;
  }

  pub would_list : (size : ℕ) → size ≡ length (names_line session old.names (state_in old))
      → Asks received session names_word → WouldReply (known_of old) received size
  would_list size e asks = record {
    round = record {
      received = received;
      lines = [];
      output = names_line session old.names (state_in old);
    };
    next = known_of old;
    received_is = refl;
    step = inr (inr (inr (inl (record {
      session = session;
      asks = asks;
      answers = refl;
      same = refl;
      none = refl;
    }))));
    size_is = e;
  }

module _ (old new : LiveState) (same : IsAsKnown old new) (received line : Text)
    (cause : IsFaultLine (calls_in old) old.names received line)
  where
    abbrev refused : Round
    refused = record { received = received; lines = []; output = line }

    refusing : Refusing (known_of old) (known_of new) refused
    refusing = record {
      same = as_known old new same;
      none = refl;
      cause = cause;
    }

    pub refused_round : (output output' logged logged' : Text) → output' ≡ output ++ line
        → logged' ≡ logged
        → AppendsRound replies.Fault (known_of old) (known_of new) received output output' logged
        logged'
    refused_round output output' logged logged' writes logs = record {
      round = refused;
      received_is = refl;
      step = refusing;
      writes = writes;
      logs = logs ∙ sym (append-nil logged);
      prefix = (line, refl);
    }

    would_refuse : (size : ℕ) → size ≡ length line → WouldReply (known_of old) received size
    would_refuse size e = record {
      round = refused;
      next = known_of new;
      received_is = refl;
      step = inr (inr (inr (inr refusing)));
      size_is = e;
    }

    pub refusal_put_off : (most : ℕ) (why : AnswerFault) → IsUnwrittenFor line most why
        → IsPutOffFor (known_of old) received most why
    refusal_put_off most (Unanswered why) e = e
    refusal_put_off most (TooLong size) (more, e) = (more, would_refuse size e)

-- why a text was refused, and its fault
pub undone_end : (live : LiveState) (session : ℕ) (text : Text) (most : ℕ) (why : AnswerFault)
    → text ≡ end_word → IsUnendedFor live session most why → IsUndoneFor live session text most why
undone_end live session text most (Unanswered why) is e = inr (inl (ap refusal_word_of e))
undone_end live session text most (TooLong size) is (more, would) = (
  more,
  λ received asks.
      would_end live received session size would (subst (Asks received session) is asks),
)

pub undone_names : (live : LiveState) (session : ℕ) (text : Text) (most : ℕ) (why : AnswerFault)
    → text ≡ names_word
    → IsUnwrittenFor (names_line session live.names (state_in live)) most why
    → IsUndoneFor live session text most why
undone_names live session text most (Unanswered why) is e = inr (inl (ap refusal_word_of e))
undone_names live session text most (TooLong size) is (more, e) = (
  more,
  λ received asks. would_list live received session size e (subst (Asks received session) is asks),
)

pub undone_inquiry : (live : LiveState) (session : ℕ) (text : Text) (most : ℕ)
    (inquiry : Inquiry) (name : Bor Text) (why : AnswerFault)
    → Requests text (requests.Inquiry inquiry name)
    → IsInquiryFaultFor (state_in live) session inquiry name.now most why
    → IsUndoneFor live session text most why
undone_inquiry live session text most inquiry name (Unanswered why) (is, fits) e =
    inr (inl (ap refusal_word_of e))
undone_inquiry live session text most inquiry name (TooLong size) (is, fits) (more, answer) = (
  more,
  λ received asks.
      would_inquire live received session text inquiry name.now answer.0 size is fits answer.1
      answer.2 asks,
)

pub undone_fault : (live : LiveState) (text : Text) (fault : LineFault) → RequestsBadly text fault
    → IsFaultWord (calls_in live) live.names text (fault_word_of fault)
undone_fault live text fault (other, another, question, is) =
    let fault_is : asked_fault 16777216 live.names text ≡ Some fault =
    ap (λ (b : Bool). cond b (inquiry_fault text) (line_fault 16777216 live.names text)) question
    ∙ is in
    inl (fault, other, another, fault_is, refl)

-- why a command is refused
command_cause : (live : LiveState) (text : Text) (why : Why) → Requests text requests.Command
    → IsUnansweredFor live text why
    → IsFaultWord (calls_in live) live.names text (refusal_word_of why)
command_cause live text Memory is cause = inr (inl refl)
command_cause live text Worn (other, another, none) worn =
    inr (inr (other, another, none, refl, worn))
command_cause live text (Fault fault) (other, another, none) is =
    inl (fault, other, another, asked_of_command 16777216 live.names text none ∙ is, refl)

pub undone_command : (live : LiveState) (session : ℕ) (text : Text) (most : ℕ) (why : AnswerFault)
    → Requests text requests.Command → IsAnswerFaultFor live session text most why
    → IsUndoneFor live session text most why
undone_command live session text most (Unanswered why) is cause =
    command_cause live text why is cause
undone_command live session text most (TooLong size) is (more, would) = (
  more,
  λ received asks. would_answer live received session text size would asks,
)
