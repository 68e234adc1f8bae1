use Rattle.std.proofs.Common.{◌∙◌, ◌++◌, ap, arith, below_more}
use Rattle.std.proofs.lemmas.Grind.{common_steps}
use Rattle.redodb_model.specs.Names.{Text, text_at}
use Rattle.redodb_live.specs.Support.LiveState.{state_in}
use Rattle.redodb_dump.specs.Dumps.{cell_line}
use Rattle.redodb_dump.proofs.CutRows.{next_name}
use Rattle.redodb_dump.proofs.checking.after_names.Goals as goal

pub loop-n-preserved : goal.loop-n-preserved
loop-n-preserved c = record {
  text = grind (arith, common_steps);
  forms = below_more _ _ c.loop-n.invariant.forms c.in_ok-put_name.ensures.form;
}

pub returns-in_default-clause-only : goal.returns-in_default-clause-only
returns-in_default-clause-only c = λ more whole.
    let names = c.args.live.now.names in
    let line = cell_line (state_in c.args.live.now) in
    let n = c.loop-n.n in
    absurd (next_name line names n c.args.body.now c.loop-n.left.now more c.deref.result.now
    (omega arith) c.loop-n.invariant.text whole
    (c.deref.ensures.value ∙ c.in_ok-put_name.ensures.text
    ∙ ap (λ (text : Text). text ++ line (text_at names n)) c.clear.ensures.items)
    c.in_default.ensures)
