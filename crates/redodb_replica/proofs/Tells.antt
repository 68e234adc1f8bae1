-- What replies say.
use Rattle.std.proofs.Common.{◌≡◌, ℕ, Bool, List, [], ◌∷◌, Option, None, refl, subst, MatchOption}
use Rattle.std.specs.declared.cmp.Ordering.{Ordering}
use Rattle.redodb_model.specs.Command.{Command}
use Rattle.redodb_model.specs.Names.{Naming, numbers}
use Rattle.redodb_model.specs.Renaming.{AllBelow, IsReplyBelow}
use Rattle.redodb_model.specs.Reply.{Refusal, Refused, Reply}
use Rattle.redodb_model.specs.State.{Records}
use Rattle.redodb_model.specs.Step.{Replies, Tells, stale_reply, verdict_of}
use Rattle.redodb_records.specs.Rows.{by_number}

pub stale_reply_below : (count : ℕ) (ns : List ℕ) → AllBelow count ns
    → IsReplyBelow count (stale_reply ns)
stale_reply_below count [] below = tt
stale_reply_below count (n ∷ ns) below = below

-- a verdict doesn't depend on the order of names
pub same_verdict : (order : ℕ → ℕ → Ordering) (r : Records ℕ) (s : ℕ) (holds : Bool)
    (x : Command ℕ) → verdict_of by_number r s holds x ≡ verdict_of (numbers order) r s holds x
same_verdict order r s holds x = refl

module _ (naming : Naming ℕ) (r : Records ℕ) (s : ℕ) (holds : Bool) (x : Command ℕ) where
  -- the reply to an accepted command is its answer
  pub replies_accepted : (reply : Reply ℕ) → None ≡ verdict_of naming r s holds x
      → Tells naming r x reply → Replies naming r s holds x reply
  replies_accepted reply is tells =
      subst (λ (o : Option (Refusal ℕ)). MatchOption o (Tells naming r x reply)
      (λ refusal. reply ≡ Refused refusal)) is tells
