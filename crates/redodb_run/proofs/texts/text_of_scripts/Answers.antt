use Rattle.redodb_run.proofs.RunTexts.{plan_text_here}
use Rattle.redodb_run.proofs.texts.text_of_scripts.Goals as goal

pub returns-clause-text : goal.returns-clause-text
returns-clause-text g c =
    plan_text_here c.in-Ok.plan c.args.names c.args.scripts.items c.in_ok-text_of_plan.field-0.items
    c.in-Ok.ensures.plan c.in_ok-text_of_plan.ensures
