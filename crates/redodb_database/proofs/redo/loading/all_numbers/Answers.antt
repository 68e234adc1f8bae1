use Rattle.std.proofs.Common.{◌↔◌, ◌<◌, ℕ, List, refl, sym, subst, arith}
use Rattle.std.specs.List.{Contains}
use Rattle.std.proofs.lemmas.Iterator.{items_from_collect, YieldsList-from_range}
use Rattle.std.proofs.lemmas.Result.{IfOk-weaker}
use Rattle.redodb_database.proofs.Loaded.{range_members}
use Rattle.redodb_database.proofs.redo.loading.all_numbers.Goals as goal

pub returns : goal.returns
returns c =
    let count = c.args.count in
    IfOk-weaker c.collect.result _ _ (λ numbers is n.
    subst (λ (ns : List ℕ). Contains ns n ↔ (n < count)) (sym is) (range_members count n))
    (items_from_collect c.collect.result c.collect.ensures.ran
    (YieldsList-from_range 0 count count refl (omega arith)))
