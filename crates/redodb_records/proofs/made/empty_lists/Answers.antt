use Rattle.std.proofs.Common.{sym, subst, arith, List}
use Rattle.std.proofs.lemmas.Grind.{common_steps}
use Rattle.redodb_records.specs.Numbers.{NumberList}
use Rattle.redodb_records.specs.Support.Kept.{AreEmpty}
use Rattle.redodb_records.proofs.Begun.{empty_push}
use Rattle.redodb_records.proofs.made.empty_lists.Goals as goal

pub fill-preserved : goal.fill-preserved
fill-preserved c = record {
  count = grind (arith, common_steps);
  empty = subst (λ (lists : List NumberList). AreEmpty lists) (sym c.in_ok-push.ensures.items)
      (empty_push c.fill.lists.items c.new.result c.fill.invariant.empty c.new.ensures);
}
