-- What is kept of a line determines the fault of the whole line.
use Rattle.std.proofs.Common.{◌≡◌, ◌≢◌, ◌⊎◌, ℕ, ◌+◌, ◌-◌, ◌<◌, ◌≤◌, List, ◌++◌, length, take, drop, length-append, append_assoc, sym, ap, ◌∙◌, subst, inl, inr, arith}
use Rattle.std.specs.Prelude.{codes, decimal}
use Rattle.std.proofs.Math.Seq.{take-append-add}
use Rattle.std.proofs.lemmas.Bool.{cases_lt}
use Rattle.std.proofs.lemmas.Fmt.{length-decimal-le}
use Rattle.std.proofs.lemmas.List.{take_all, length-take-le, take-append-drop}
use Rattle.redodb_model.specs.Names.{Text}
use Rattle.redodb_text.specs.Inquiries.{inquiry_text_of}
use Rattle.redodb_text.proofs.Inquired.{asked_when_long, fits_is_short}
use Rattle.redodb_keeping.specs.Rounds.{Round, Asks, IsFaultWord, end_word, names_word}
use Rattle.redodb_keeping.specs.Support.Steps.{Known, Refusing, IsStep, IsFaultLine}
use Rattle.redodb_conversation.specs.Support.KeptLines.{kept_of}
use Rattle.redodb_conversation.proofs.LongQuestions.{no_question_in_more}

abbrev prefix_of : ℕ → Text
prefix_of s = decimal (s + 1) ++ codes " "

prefix_is_short : (s : ℕ) → s < 65535 → length (prefix_of s) ≤ 6
prefix_is_short s few =
    omega (
      arith,
      length-append (decimal (s + 1)) (codes " "),
      length-decimal-le 5 (s + 1) (omega arith) (omega arith) (omega arith),
    )

-- what is kept of a line has the line's session, with a prefix of its text
asks_in_prefix : (whole : Text) (s : ℕ) (text : Text) → Asks whole s text
    → Asks (kept_of whole) s (take (8199 - length (prefix_of s)) text)
asks_in_prefix whole s text (few, parts) =
    let d = prefix_of s in
    let split : 8199 ≡ length d + (8199 - length d) = omega (arith, prefix_is_short s few) in (
      few,
      ap (take 8199) parts ∙ ap (λ n. take n (d ++ text)) split
          ∙ take-append-add d text (8199 - length d),
    )

-- and the line has the session of what is kept, with more text
asks_with_more : (whole : Text) (s : ℕ) (text : Text) → Asks (kept_of whole) s text
    → Asks whole s (text ++ drop 8199 whole)
asks_with_more whole s text (few, parts) =
    let rest = drop 8199 whole in (
      few,
      sym (take-append-drop 8199 whole) ∙ ap (λ t. t ++ rest) parts
          ∙ append_assoc (prefix_of s) text rest,
    )

asked_length : (received : Text) (s : ℕ) (text : Text) → Asks received s text
    → length received ≤ 6 + length text
asked_length received s text (few, parts) =
    omega (arith, ap length parts, length-append (prefix_of s) text, prefix_is_short s few)

-- a word that is short is not a long text with more
not_short : (text more word : Text) → 8192 < length text → length word ≤ 8192
    → text ++ more ≢ word
not_short text more word long short same =
    absurd (omega (arith, length-append text more, ap length same))

fault_of_more : (calls : ℕ) (names : List Text) (text more word : Text) → 8192 < length text
    → IsFaultWord calls names text word → IsFaultWord calls names (text ++ more) word
fault_of_more calls names text more word long (inl (fault, other, another, is, e)) =
    let longer : 8192 < length (text ++ more) = omega (arith, length-append text more) in
    inl (
      fault,
      not_short text more end_word long (omega arith),
      not_short text more names_word long (omega arith),
      asked_when_long 16777216 names (text ++ more) longer
          ∙ sym (asked_when_long 16777216 names text long) ∙ is,
      e,
    )
fault_of_more calls names text more word long (inr (inl memory)) = inr (inl memory)
fault_of_more calls names text more word long (inr (inr (other, another, none, e, worn))) =
    inr (inr (
      not_short text more end_word long (omega arith),
      not_short text more names_word long (omega arith),
      no_question_in_more text more long none,
      e,
      worn,
    ))

module _ (old new : Known) (round : Round) (whole : Text)
    (received : round.received ≡ kept_of whole)
  where
    module _ (long : length round.received ≡ 8199) where
      refusing_whole : Refusing old new round → Refusing old new (record round { received = whole })
      refusing_whole step = record {
        same = step.same;
        none = step.none;
        cause = cause step.cause;
      }
        where
          cause : IsFaultLine old.calls old.names round.received round.output
              → IsFaultLine old.calls old.names whole round.output
          cause (inl (none, output)) =
              inl (
                (λ s text asks. none s (take (8199 - length (prefix_of s)) text)
                    (subst (λ h. Asks h s (take (8199 - length (prefix_of s)) text)) (sym received)
                    (asks_in_prefix whole s text asks))),
                output,
              )
          cause (inr (s, text, word, asks, is, output)) =
              inr (
                s,
                text ++ drop 8199 whole,
                word,
                asks_with_more whole s text (subst (λ h. Asks h s text) received asks),
                fault_of_more old.calls old.names text (drop 8199 whole) word
                    (omega (arith, asked_length round.received s text asks, long)) is,
                output,
              )

      long_step : IsStep old new round → IsStep old new (record round { received = whole })
      long_step (inl step) =
          absurd (omega (
            arith,
            asked_length round.received step.line.session step.text step.asks,
            step.parsed.1,
            long,
          ))
      long_step (inr (inl step)) =
          absurd (omega (arith, asked_length round.received step.session end_word step.asks, long))
      long_step (inr (inr (inl step))) =
          let text = inquiry_text_of step.inquiry step.name in
          absurd (omega (
            arith,
            asked_length round.received step.session text step.asks,
            fits_is_short text step.fits,
            long,
          ))
      long_step (inr (inr (inr (inl step)))) =
          absurd (omega (
            arith,
            asked_length round.received step.session names_word step.asks,
            long,
          ))
      long_step (inr (inr (inr (inr step)))) = inr (inr (inr (inr (refusing_whole step))))

    -- the answer to what is kept of a line is the answer to the line
    step_of_kept : IsStep old new round → IsStep old new (record round { received = whole })
    step_of_kept step = elim (cases_lt (length whole) 8199) [
      | inl short ↦ subst (λ h. IsStep old new (record round { received = h }))
          (received ∙ take_all 8199 whole (omega arith)) step
      | inr long ↦ long_step (ap length received ∙ length-take-le 8199 whole long) step
    ]

pub step_of_whole : (old new : Known) (round : Round) (whole : Text)
    → (round.received ≡ whole) ⊎ (round.received ≡ kept_of whole) → IsStep old new round
    → IsStep old new (record round { received = whole })
step_of_whole old new round whole (inl same) step =
    subst (λ h. IsStep old new (record round { received = h })) same step
step_of_whole old new round whole (inr kept) step = step_of_kept old new round whole kept step
