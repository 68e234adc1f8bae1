use Rattle.std.proofs.lemmas.Result.{IfOk-weaker}
use Rattle.redodb_run.proofs.RunTexts.{plan_text}
use Rattle.redodb_run.proofs.texts.text_of_plan.Goals as goal

pub returns : goal.returns
returns g c =
    IfOk-weaker c.run_text.result _ _
    (λ text is. plan_text c.args.plan.now c.in_ok-outcome.outcome.history.items text.items
    c.in_ok-outcome.ensures.run is) c.run_text.ensures
