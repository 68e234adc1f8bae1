use Rattle.std.proofs.Common.{sym, ap, ◌∙◌, subst}
use Rattle.std.proofs.lemmas.Result.{IfOk-weaker}
use Rattle.redodb_names.specs.Orders.{AreSorted}
use Rattle.redodb_names.proofs.Sorting.{numbers_in, AreSorted-from_pairs}
use Rattle.redodb_names.proofs.sorted.sorted_numbers.Goals as goal

pub returns : goal.returns
returns c =
    let sorted =
    AreSorted-from_pairs c.args.names.now c.in_ok-pairs.pairs.items c.sort.new.self.items
    c.in_ok-pairs.ensures.names c.in_ok-pairs.ensures.pairs c.in_ok-sort.ensures.permutation
    c.in_ok-sort.ensures.sorted in
    IfOk-weaker c.numbers_of.result _ _ (λ v e. subst (AreSorted c.args.names.now)
    (sym (e ∙ ap numbers_in c.deref.ensures.value)) sorted) c.numbers_of.ensures
