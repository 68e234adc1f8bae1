use Rattle.std.proofs.Common.{◌↔◌, ◌<◌, ◌^◌, ℕ, List, length, sym, subst, arith}
use Rattle.std.specs.List.{Contains}
use Rattle.redodb_model.specs.Renaming.{AllBelow}
use Rattle.redodb_memo.specs.Bits.{IsSet}
use Rattle.redodb_memo.specs.NameSet.{Marked, IsMarked, IsQueued, size_of}
use Rattle.redodb_memo.specs.Support.KeptNames.{marked_of}
use Rattle.redodb_memo.proofs.Marking.{queue_below, unmarks_from, queue_emptied}
use Rattle.redodb_memo.proofs.name_set.NameSet.unmark_queue.Goals as goal

pub unmark_each-requires : goal.unmark_each-requires
unmark_each-requires c =
    let m : Marked = marked_of c.self.inside in
    let below = queue_below m c.self.invariant.queue in
    subst (AllBelow (size_of m)) (sym c.deref.ensures.value) below

pub invariant_of-self : goal.invariant_of-self
invariant_of-self c =
    let marks = c.unmark_each.new.marks in
    let sized = c.unmark_each.ensures.sized in
    let few : length marks < 2 ^ 32 = omega (arith, sized, c.self.invariant.queue.few) in
    record {
      queue = rw c.clear.ensures.items (queue_emptied marks few);
      room = omega (arith, sized, c.self.invariant.room, c.clear.ensures.capacity);
    }

pub returns : goal.returns
returns c =
    let m : Marked = marked_of c.self.inside in
    let marks = c.unmark_each.new.marks in
    let unmarked = c.unmark_each.ensures in
    let each = subst
    (λ (ns : List ℕ). (t : ℕ) → IsSet marks t ↔ (IsMarked m t × (Contains ns t → ⊥)))
    c.deref.ensures.value unmarked.each in
    rw (c.clear.ensures.items, ← c.self.view_is)
    (unmarks_from (IsQueued m) m marks unmarked.sized each)
