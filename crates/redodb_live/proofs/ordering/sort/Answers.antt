use Rattle.std.proofs.Common.{◌≡◌, ℕ, ap, rules}
use Rattle.std.specs.Ordering.{nat_cmp, is_lt}
use Rattle.std.specs.Cmp.Lexicographic.{slice_cmp, nat_list_cmp_total}
use Rattle.std.proofs.lemmas.Fn.{always_returns_same}
use Rattle.std.proofs.lemmas.List.Sorted.{ranks_by}
use Rattle.redodb_model.specs.Names.{text_at}
use Rattle.redodb_live.proofs.ordering.sort.Goals as goal

pub returns-clause-sorted : goal.returns-clause-sorted
returns-clause-sorted c =
    let names = c.args.names.now in
    c.sort_unstable_by.ensures.sorted
    (λ (a b : ℕ). is_lt (slice_cmp nat_cmp (text_at names a) (text_at names b)))
    (ranks_by nat_list_cmp_total (text_at names))
    (always_returns_same _ _ _ (λ a r g h.
    let is : r ≡ slice_cmp nat_cmp (text_at names a.0.now) (text_at names a.1.0.now) =
    search rules in
    (ap is_lt is, search rules)))
