use Rattle.std.proofs.Common.{◌≡◌, ℕ, length, refl, subst, arith}
use Rattle.redodb_names.specs.Support.Numbered.{AreNumbered}
use Rattle.redodb_names.proofs.Sorting.{AreNumbered-none, AreNumbered-push}
use Rattle.redodb_names.proofs.sorted.numbered.Goals as goal

pub loop-n-init : goal.loop-n-init
loop-n-init c = rw c.new-pairs.ensures.items (AreNumbered-none c.args.names.now)

pub loop-n-preserved : goal.loop-n-preserved
loop-n-preserved c =
    rw c.in_ok-push.ensures.items (AreNumbered-push c.args.names.now c.loop-n.n c.loop-n.pairs.items
    (c.text.result, c.loop-n.n) c.loop-n.invariant refl c.text.ensures)

pub returns-clause-pairs : goal.returns-clause-pairs
returns-clause-pairs c =
    let whole : c.loop-n.n ≡ length c.args.names.now = omega (arith, c.len-n-end.ensures.count) in
    subst (λ (n : ℕ). AreNumbered c.args.names.now n c.loop-n.pairs.items) whole c.loop-n.invariant
