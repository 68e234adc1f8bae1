use Rattle.std.proofs.Common.{ℕ, ◌++◌, refl, sym, ap, ◌∙◌, subst, inl, inr, decimal, arith}
use Rattle.std.proofs.lemmas.Fmt.{decimal_digit}
use Rattle.redodb_model.specs.Names.{Text}
use Rattle.redodb_live.specs.Support.LiveState.{calls_in}
use Rattle.redodb_keeping.specs.Rounds.{IsFaultWord, fault_text_of}
use Rattle.redodb_conversation.specs.declared.replying.Replied.TheVariants.{Fault}
use Rattle.redodb_conversation.proofs.Outcomes.{ok_is_then, if_err_then}
use Rattle.redodb_conversation.proofs.RoundReplied.{refused_round, refusal_put_off}
use Rattle.redodb_conversation.proofs.replying.reply.Goals as goal

pub returns-in_default-clause-answered : goal.returns-in_default-clause-answered
returns-in_default-clause-answered c =
    let live = c.args.live.now in
    let zero = ap decimal c.no_session.ensures.number ∙ decimal_digit 0 (omega arith) in
    ok_is_then c.refuse_within.result Fault _ _ c.refuse_within.ensures.answered
    c.refuse_within.ensures.fault (λ writes.
    refused_round live live (record { state = refl; names = refl; calls = refl }) c.args.line.now
    (fault_text_of (decimal c.no_session.result.number) c.no_session.result.word.now)
    (inl (c.in_default.ensures, λ i. fault_text_of (zero i) (c.no_session.ensures.word i)))
    c.args.output.now.items c.refuse_within.new.output.items c.args.logged.now.items
    c.args.logged.now.items writes refl)

pub returns-in_default-clause-cause : goal.returns-in_default-clause-cause
returns-in_default-clause-cause c =
    let live = c.args.live.now in
    let zero = ap decimal c.no_session.ensures.number ∙ decimal_digit 0 (omega arith) in
    if_err_then c.refuse_within.result _ _ c.refuse_within.ensures.cause (
    refusal_put_off live live (record { state = refl; names = refl; calls = refl }) c.args.line.now
    (fault_text_of (decimal c.no_session.result.number) c.no_session.result.word.now)
    (inl (c.in_default.ensures, λ i. fault_text_of (zero i) (c.no_session.ensures.word i)))
    c.args.most)

pub returns-in-Err-Unanswered-clause-answered : goal.returns-in-Err-Unanswered-clause-answered
returns-in-Err-Unanswered-clause-answered c =
    let live = c.args.live.now in
    let word = c.of.result.word.now in
    let line = fault_text_of (decimal c.of.result.number) word in
    let failed = c.in-Err-Unanswered.ensures in
    let cause = rw c.in-Err-Unanswered.field-0-is at failed.cause in
    ok_is_then c.refuse_within-in-Err-Unanswered.result Fault _ _
    c.refuse_within-in-Err-Unanswered.ensures.answered
    c.refuse_within-in-Err-Unanswered.ensures.fault (λ writes.
    refused_round live c.respond_within.new.live failed.known c.args.line.now line
    (inr (
      c.in-Some.session,
      c.in-Some.text.now,
      word,
      c.in-Some.ensures,
      subst (IsFaultWord (calls_in live) live.names c.in-Some.text.now) (sym c.of.ensures.word) cause,
      ap (λ (n : ℕ). fault_text_of (decimal n) word) c.of.ensures.number,
    ))
    c.args.output.now.items c.refuse_within-in-Err-Unanswered.new.output.items
    c.args.logged.now.items c.respond_within.new.logged.items
    (writes ∙ ap (λ (t : Text). t ++ line) failed.unwritten.writes) failed.unwritten.logs)

pub returns-in-Err-Unanswered-clause-cause : goal.returns-in-Err-Unanswered-clause-cause
returns-in-Err-Unanswered-clause-cause c =
    let live = c.args.live.now in
    let word = c.of.result.word.now in
    let failed = c.in-Err-Unanswered.ensures in
    let cause = rw c.in-Err-Unanswered.field-0-is at failed.cause in
    if_err_then c.refuse_within-in-Err-Unanswered.result _ _
    c.refuse_within-in-Err-Unanswered.ensures.cause (
    refusal_put_off live c.respond_within.new.live failed.known c.args.line.now
    (fault_text_of (decimal c.of.result.number) word)
    (inr (
      c.in-Some.session,
      c.in-Some.text.now,
      word,
      c.in-Some.ensures,
      subst (IsFaultWord (calls_in live) live.names c.in-Some.text.now) (sym c.of.ensures.word) cause,
      ap (λ (n : ℕ). fault_text_of (decimal n) word) c.of.ensures.number,
    ))
    c.args.most)
