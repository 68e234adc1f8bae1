use Rattle.std.proofs.Common.{◌≡◌, ◌∙◌, ℕ, List, take, sym, subst}
use Rattle.std.specs.List.{Contains}
use Rattle.redodb_model.specs.Support.OutOfDate.{TouchesSeed}
use Rattle.redodb_memo.specs.NameSet.{IsMarked, size_of}
use Rattle.redodb_memo.specs.Support.NameSet.{MarksOnly}
use Rattle.redodb_memo.specs.Support.Regions.{EntersDue}
use Rattle.redodb_memo.proofs.Deriving.{region_listed, closed_after, cleared_again, memo_right}
use Rattle.redodb_memo.proofs.Marking.{marks_entered}
use Rattle.redodb_memo.proofs.memo.Memo.refresh.Goals as goal

pub derive-requires-clause-closed : goal.derive-requires-clause-closed
derive-requires-clause-closed g c =
    closed_after (g.D.Dependencies.records c.args.database.now) c.unmark.ensures

pub derive-requires-2-clause-closed : goal.derive-requires-2-clause-closed
derive-requires-2-clause-closed g c =
    let r = g.D.Dependencies.records c.args.database.now in
    c.derive.ensures.closed (closed_after r c.unmark.ensures)

pub invariant_of-self : goal.invariant_of-self
invariant_of-self g c =
    let kept = c.self.invariant in
    let names = size_of c.derive-2.new.marks in
    let same : size_of c.self.inside.out ≡ names =
    sym (c.derive-2.ensures.grown.sized ∙ c.derive.ensures.grown.sized ∙ c.unmark.ensures.sized) in
    let entered = marks_entered kept.outdated.unmarked kept.outdated.empty c.enter_marked.ensures in
    record {
      region = cleared_again names
          (c.find_region-touching.ensures.sized ∙ kept.region.sized ∙ same)
          c.find_region-touching.ensures.region c.unmark_queue-2.ensures;
      outdated = cleared_again names
          (c.enter_marked.ensures.grown.sized ∙ kept.outdated.sized ∙ same)
          entered c.unmark_queue.ensures;
    }

pub returns-clause-right : goal.returns-clause-right
returns-clause-right g c =
    let r = g.D.Dependencies.records c.args.database.now in
    let seeds = c.args.seeds.now in
    let region = c.queue-region.result.now in
    let touching = c.find_region-touching.result in
    let kept = c.self.invariant.outdated in
    let out = c.self.inside.out in
    let listed = region_listed r seeds region c.find_region-touching.ensures.region
    c.queue-region.ensures.queue in
    let touched = subst (λ (q : List ℕ). (t : ℕ) → TouchesSeed r seeds t
    → Contains (take touching q) t)
    (sym c.queue-region.ensures.queue) c.find_region-touching.ensures.touched in
    let entered = marks_entered kept.unmarked kept.empty c.enter_marked.ensures in
    let held = subst
    (λ (us : List ℕ). MarksOnly (λ t. IsMarked out t × Contains us t) c.enter_marked.new.marks)
    c.split_at.ensures.back entered in
    let first = subst (λ (us : List ℕ). EntersDue r us c.unmark.new.self c.derive.new.marks)
    c.split_at.ensures.front c.derive.ensures in
    let second = subst (λ (us : List ℕ). EntersDue r us c.derive.new.marks c.derive-2.new.marks)
    c.queue.ensures.queue c.derive-2.ensures in
    memo_right r seeds region c.args.self.now c.requires.right c.self.view_is listed
    c.unmark.ensures touching touched held first second
