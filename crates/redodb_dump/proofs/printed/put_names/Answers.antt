use Rattle.std.proofs.Common.{arith, below_more}
use Rattle.std.proofs.lemmas.Grind.{common_steps}
use Rattle.redodb_dump.proofs.printed.put_names.Goals as goal

pub loop-n-preserved : goal.loop-n-preserved
loop-n-preserved c = record {
  text = grind (arith, common_steps);
  forms = below_more _ _ c.loop-n.invariant.forms c.in_ok-put_name.ensures.form;
}
