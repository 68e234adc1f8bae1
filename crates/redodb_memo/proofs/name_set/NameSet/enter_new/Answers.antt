use Rattle.std.proofs.Common.{true, length, ap, arith}
use Rattle.std.proofs.lemmas.List.{length-set}
use Rattle.redodb_memo.specs.NameSet.{Marked}
use Rattle.redodb_memo.specs.Support.KeptNames.{marked_of}
use Rattle.redodb_memo.proofs.Marking.{queue_with_name}
use Rattle.redodb_memo.proofs.name_set.NameSet.enter_new.Goals as goal

pub invariant_of-self : goal.invariant_of-self
invariant_of-self c =
    let m : Marked = marked_of c.self.inside in
    let t = c.args.t in
    let below = rw (← c.self.view_is) at c.requires.below in
    let off = rw (← c.self.view_is) at c.requires.unmarked in
    let sized = length-set m.marks t true in
    let pushed = c.push_reserved.ensures in
    record {
      queue = rw (c.insert.ensures, pushed.items)
          (queue_with_name m t below off c.self.invariant.queue);
      room =
          omega (arith, sized, ap length c.insert.ensures, c.self.invariant.room, pushed.capacity);
    }
