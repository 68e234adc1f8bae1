use Rattle.std.proofs.Common.{ap, sym, ◌∙◌, ◌+◌}
use Rattle.std.specs.Option.{unwrap_or}
use Rattle.std.specs.HashMap.{get}
use Rattle.std.proofs.lemmas.Map.{count_at-update}
use Rattle.redodb_merge.specs.Support.Merging.{tally, same_pair, busy_one}
use Rattle.redodb_merge.proofs.BusyCounts.{put_at}
use Rattle.redodb_merge.proofs.merging.counts.add.Goals as goal

pub returns-in_ok-insert : goal.returns-in_ok-insert
returns-in_ok-insert c t g = let u = c.in-Busy.target in
    let h = c.in-Busy.grant in
    let m = c.args.counts.now in
    let n = c.counted-n.result in
    put_at (tally m t g) (tally c.insert.new.self t g) u h t g n
    (λ a b. (λ i. tally m (sym a i) (sym b i)) ∙ sym c.counted-n.ensures)
    (ap (λ o. unwrap_or o 0) (c.in_ok-insert.ensures.updates.0 (t, g))
    ∙ count_at-update same_pair (get same_pair m) (u, h) (n + 1) (t, g))
    ∙ ap (λ p. tally m t g + busy_one t g p) (sym c.in-Busy.is)
