use Rattle.std.proofs.Common.{arith, ap, sym, ◌≡◌, ◌∙◌, ◌-◌, ◌+◌}
use Rattle.std.specs.Option.{unwrap_or}
use Rattle.std.specs.HashMap.{get}
use Rattle.std.proofs.lemmas.Map.{count_at-update}
use Rattle.redodb_merge.specs.Support.Merging.{tally, same_pair, busy_one}
use Rattle.redodb_merge.proofs.BusyCounts.{took_at, own_one, some_is}
use Rattle.redodb_merge.proofs.merging.counts.take.Goals as goal

pub overflow_sub-n : goal.overflow_sub-n
overflow_sub-n c =
    let u = c.in-Busy.target in let h = c.in-Busy.grant in
    let one : busy_one u h c.args.place ≡ 1 = ap (busy_one u h) c.in-Busy.is ∙ own_one u h in
    let r = c.requires u h in
    let read : c.in-Some.n.now ≡ tally c.args.counts.now u h =
    ap (λ o. unwrap_or o 0) c.in-Some.ensures.value in
    omega arith

pub returns-in-Some : goal.returns-in-Some
returns-in-Some c t g = let u = c.in-Busy.target in
    let h = c.in-Busy.grant in
    let m = c.args.counts.now in
    let n = c.in-Some.n.now in
    let one : busy_one u h c.args.place ≡ 1 = ap (busy_one u h) c.in-Busy.is ∙ own_one u h in
    let read : n ≡ tally m u h = ap (λ o. unwrap_or o 0) c.in-Some.ensures.value in
    let new = c.get_mut.follows.lender (n - 1) in
    let writes = c.get_mut.follows.holds (n - 1) in
    let updates = writes.3 (some_is _ n c.in-Some.ensures.value) in
    ap (λ p. tally new t g + busy_one t g p) c.in-Busy.is
    ∙ took_at (tally m t g) (tally new t g) u h t g n (let r = c.requires u h in omega arith)
    (λ a b. (λ i. tally m (sym a i) (sym b i)) ∙ sym read)
    (ap (λ o. unwrap_or o 0) (updates.0 (t, g))
    ∙ count_at-update same_pair (get same_pair m) (u, h) (n - 1) (t, g))
