use Rattle.std.proofs.Common.{◌∙◌}
use Rattle.redodb_memo.specs.NameSet.{size_of}
use Rattle.redodb_memo.proofs.Deriving.{cleared_again}
use Rattle.redodb_database.proofs.redo.Redo.why.Goals as goal

pub invariant_of-memo : goal.invariant_of-memo
invariant_of-memo c =
    let kept = c.memo.invariant in
    record {
      region = cleared_again (size_of c.memo.inside.out)
          (c.search-found.ensures.sized ∙ kept.region.sized)
          (record {
            queued = λ t. (λ queued. queued, λ queued. queued);
            marked = c.search-found.ensures.queued;
          }) c.unmark_queue.ensures;
      outdated = kept.outdated;
    }
