-- A command whose reply lists no names has a reply, whatever the records are.
use Rattle.std.proofs.Common.{◌≡◌, ℕ, Bool, false, Option, Some, None, refl, sym, subst}
use Rattle.std.specs.Prelude.{MatchOption}
use Rattle.std.specs.declared.cmp.Ordering.{Ordering}
use Rattle.redodb_model.specs.Names.{numbers}
use Rattle.redodb_model.specs.State.{Records}
use Rattle.redodb_model.specs.Command.{Command, Lock, IfChange, Stamp, Ood, Targets, Sources, asked_lock}
use Rattle.redodb_model.specs.Reply.{Reply, Refusal, Okay, Refused}
use Rattle.redodb_model.specs.Step.{Replies, Tells, verdict_of}
use Rattle.redodb_model.specs.Renaming.{IsBelow, IsReplyBelow}
use Rattle.redodb_model.proofs.VerdictsByName.{RefusesBelow, verdict_below}
use Rattle.redodb_commands.specs.Meaning.{reply_of}
use Rattle.redodb_commands.specs.declared.reply.Reply as coded
use Rattle.redodb_names.specs.Orders.{by_place}
use Rattle.redodb_graph.specs.declared.step.Step.{Step}
use Rattle.redodb_replica.specs.Replicas.{count_of, records_of}
use Rattle.redodb_replica.specs.Replies.{lists_names}
use Rattle.redodb_board.specs.Support.Own.{holds_its_target}
use Rattle.redodb_board.specs.Support.Steps.{IsStepOf, IsSaidBy, IsReadyBy}
use Rattle.redodb_board.specs.declared.worker.Worker.{Worker}

module _ (count : ℕ) (order : ℕ → ℕ → Ordering) (r : Records ℕ) (s : ℕ) (h : Bool) where
  accepted : (x : Command ℕ) → asked_lock x ≡ None → lists_names x ≡ false
      → (reply : Reply ℕ) × Tells (numbers order) r x reply × IsReplyBelow count reply
  accepted (Lock t) a b = absurd cc
  accepted (IfChange t ns) a b = absurd cc
  accepted (Stamp t content) a b = (_, refl, tt)
  accepted Ood a b = absurd cc
  accepted Targets a b = absurd cc
  accepted Sources a b = absurd cc
  accepted x a b = (Okay, refl, tt)

  abbrev Answer : Command ℕ → Type 0
  Answer x =
      (reply : Reply ℕ) × Replies (numbers order) r s h x reply × IsReplyBelow count reply

  briefly : (x : Command ℕ) → asked_lock x ≡ None → lists_names x ≡ false → IsBelow count x
      → Answer x
  briefly x a b below =
      by (verdict_of (numbers order) r s h x) refl (verdict_below count order r s h x below)
    where
      by : (v : Option (Refusal ℕ)) → verdict_of (numbers order) r s h x ≡ v
          → RefusesBelow count v → Answer x
      by None e under = let y = accepted x a b in (
        y.0,
        subst
            (λ v. MatchOption v (Tells (numbers order) r x y.0) (λ f. y.0 ≡ Refused f))
            (sym e) y.1,
        y.2,
      )
      by (Some f) e under = (
        Refused f,
        subst
            (λ v. MatchOption v (Tells (numbers order) r x (Refused f))
            (λ g. Refused f ≡ Refused g))
            (sym e) refl,
        under,
      )

-- what is ready has a reply
pub ready_said : (w : Worker) (step : Step) (x : Command ℕ) (list : Option coded.Reply)
    → IsStepOf w step x → IsReadyBy w x list → (reply : Reply ℕ) × IsSaidBy w x reply
ready_said w step x (Some reply) is ready = (reply_of reply, ready)
ready_said w step x None is ready =
    let y =
    briefly (count_of w.replica) (by_place w.replica.graph.sorted) (records_of w.replica)
    w.session (holds_its_target w.own x) x is.no_lock ready is.numbers in
    (y.0, record { replies = y.1; below = y.2 })
