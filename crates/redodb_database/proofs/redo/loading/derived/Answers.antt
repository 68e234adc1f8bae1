use Rattle.std.proofs.Common.{◌<◌, ◌∙◌, ℕ, List, sym, subst, arith}
use Rattle.std.specs.List.{Contains}
use Rattle.redodb_model.specs.State.{empty}
use Rattle.redodb_model.proofs.Listing.{each_below}
use Rattle.redodb_database.proofs.Loaded.{differ_at_all}
use Rattle.redodb_database.proofs.redo.loading.derived.Goals as goal

pub correct-requires-clause-seeds : goal.correct-requires-clause-seeds
correct-requires-clause-seeds c =
    each_below _ c.deref.result.now (λ n there.
    let below : n < c.count-count.result =
    (c.in_ok-all.ensures n).0
    (subst (λ (ns : List ℕ). Contains ns n) c.deref.ensures.value there) in
    omega (arith, c.in_ok-memo.ensures.count))

pub correct-requires-clause-right : goal.correct-requires-clause-right
correct-requires-clause-right c = (
  empty.records,
  differ_at_all c.args.records.now c.args.rows.now c.deref.result.now
      (λ n below. subst (λ (ns : List ℕ). Contains ns n) (sym c.deref.ensures.value)
      ((c.in_ok-all.ensures n).1 (omega (arith, c.count-count.ensures))))
      c.requires.rows,
  c.in_ok-memo.ensures.right,
)
