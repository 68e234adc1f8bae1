use Rattle.std.proofs.Common.{◌<◌, ◌^◌, length, arith}
use Rattle.std.specs.List.{Contains}
use Rattle.redodb_memo.specs.NameSet.{Marked}
use Rattle.redodb_memo.specs.Support.KeptNames.{marked_of}
use Rattle.redodb_memo.proofs.Marking.{unmarks_from, queue_emptied}
use Rattle.redodb_memo.proofs.name_set.NameSet.unmark.Goals as goal

pub invariant_of-self : goal.invariant_of-self
invariant_of-self c =
    let marks = c.unmark_each.new.marks in
    let sized = c.unmark_each.ensures.sized in
    let few : length marks < 2 ^ 32 = omega (arith, sized, c.self.invariant.queue.few) in
    record {
      queue = rw c.clear.ensures.items (queue_emptied marks few);
      room = omega (arith, sized, c.self.invariant.room, c.clear.ensures.capacity);
    }

pub returns : goal.returns
returns c =
    let m : Marked = marked_of c.self.inside in
    let unmarked = c.unmark_each.ensures in
    rw (c.clear.ensures.items, ← c.self.view_is)
    (unmarks_from (Contains c.args.names.now) m c.unmark_each.new.marks
    unmarked.sized unmarked.each)
