use Rattle.std.proofs.Common.{◌∙◌, ℕ, sym, subst}
use Rattle.std.specs.Ordering.{nat_cmp}
use Rattle.std.specs.Prelude.{IfOk}
use Rattle.std.proofs.lemmas.Result.{IfOk-weaker}
use Rattle.redodb_model.specs.Command.{Command}
use Rattle.redodb_model.specs.Step.{Tells}
use Rattle.redodb_model.proofs.VerdictsByName.{RefusesBelow, verdict_below}
use Rattle.redodb_commands.specs.Meaning.{reply_of}
use Rattle.redodb_names.specs.Orders.{by_place}
use Rattle.redodb_graph.specs.Steps.{Means}
use Rattle.redodb_replica.specs.Replicas.{ReplicaOf, count_of, records_of}
use Rattle.redodb_replica.specs.Replies.{naming_in}
use Rattle.redodb_replica.proofs.Tells.{replies_accepted, same_verdict}
use Rattle.redodb_replica.proofs.replica.Replica.reply.Goals as goal

pub returns-in-Some-clause-below : goal.returns-in-Some-clause-below
returns-in-Some-clause-below c =
    let count = count_of c.args.self.now in
    let x = c.requires.numbers in
    subst (RefusesBelow count) (sym (c.in-Some.ensures x.0 x.1))
    (verdict_below count nat_cmp (records_of c.args.self.now) c.args.s c.args.holds x.0 x.2)

pub returns-in-None-clause-replies : goal.returns-in-None-clause-replies
returns-in-None-clause-replies c = λ x means.
    let g = c.args.self.now.graph in
    let r = records_of c.args.self.now in
    let tells =
    subst (λ (it : ReplicaOf). (y : Command ℕ) → Means it.graph.tables c.args.step.now y
    → IfOk c.answer.result (λ reply. Tells (naming_in it.graph) (records_of it) y
    (reply_of reply))) c.self.view_is c.answer.ensures.tells in
    IfOk-weaker c.answer.result _ _ (λ reply.
    replies_accepted (naming_in g) r c.args.s c.args.holds x (reply_of reply)
    (c.in-None.ensures x means ∙ same_verdict (by_place g.sorted) r c.args.s c.args.holds x))
    (tells x means)
