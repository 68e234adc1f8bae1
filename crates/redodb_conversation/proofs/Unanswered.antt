-- A line that was replied to, or for whose answer memory ran out, is a step.
use Rattle.std.proofs.Common.{ℕ, [], refl, ap, ◌∙◌, inl, inr, decimal, arith}
use Rattle.std.proofs.lemmas.Fmt.{decimal_digit}
use Rattle.redodb_model.specs.Names.{Text}
use Rattle.redodb_live.specs.Support.LiveState.{LiveState, IsAsKnown}
use Rattle.redodb_keeping.specs.Rounds.{Round, fault_text_of}
use Rattle.redodb_keeping.specs.Support.Steps.{known_of, Known, Refusing, IsStep}
use Rattle.redodb_conversation.specs.Support.Replies.{IsReplied}
use Rattle.redodb_keeping.specs.Support.Sending.{IsMemoryFor}
use Rattle.redodb_conversation.specs.declared.replying.Replied.{Replied}
use Rattle.redodb_conversation.specs.declared.replying.Replied.TheVariants.{Done, Fault}
use Rattle.redodb_conversation.proofs.RoundReplied.{done_is_step}

pub replied_is_step : (replied : Replied) (old new : Known) (round : Round)
    → IsReplied replied old new round → IsStep old new round
replied_is_step Done old new round is = done_is_step old new round is
replied_is_step Fault old new round is = inr (inr (inr (inr is)))

pub refusing_memory : (old new : LiveState) (line : Text) (number : ℕ) (word : Text)
    → IsAsKnown old new → IsMemoryFor line number word
    → Refusing (known_of old) (known_of new)
    (record { received = line; lines = []; output = fault_text_of (decimal number) word })
refusing_memory old new line number word same (inl (none, zero, is)) = record {
  same = λ i. record { names = same.names i; state = same.state i; calls = same.calls i };
  none = refl;
  cause = inl (
    none,
    λ i. fault_text_of ((ap decimal zero ∙ decimal_digit 0 (omega arith)) i) (is i),
  );
}
refusing_memory old new line number word same (inr (s, text, asks, e, is)) = record {
  same = λ i. record { names = same.names i; state = same.state i; calls = same.calls i };
  none = refl;
  cause = inr (
    s,
    text,
    word,
    asks,
    inr (inl is),
    ap (λ n. fault_text_of (decimal n) word) e,
  );
}
