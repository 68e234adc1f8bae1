use Rattle.std.proofs.Common.{◌∙◌, ℕ, false, List, slice_index_or, ap, sym, subst, arith}
use Rattle.redodb_memo.specs.NameSet.{Marked, IsQueue}
use Rattle.redodb_memo.proofs.Marking.{queue_emptied}
use Rattle.redodb_memo.proofs.name_set.NameSet.grown.Goals as goal

pub invariant_of-result : goal.invariant_of-result
invariant_of-result c =
    let marks = c.in_ok-marks.marks in
    record {
      queue = subst (λ (queue : List ℕ). IsQueue (record { marks = marks; queue = queue }))
          (sym c.in_ok-queue.ensures.items)
          (queue_emptied marks (omega (arith, c.in_ok-marks.ensures.count)));
      room = omega (arith, c.in_ok-marks.ensures.count, c.in_ok-queue.ensures.capacity);
    }

pub returns-clause-same : goal.returns-clause-same
returns-clause-same c = λ t. c.in_ok-marks.ensures.same t
    ∙ ap (λ (m : Marked). slice_index_or m.marks t false) c.self.view_is
