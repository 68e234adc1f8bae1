use Rattle.std.proofs.Common.{◌≤◌, ◌+◌, ◌*◌, ◌-◌}
use Rattle.redodb_memo.specs.Support.Bits.{IsListedBelow}
use Rattle.redodb_memo.proofs.WordMembers.{AreLeft}
use Rattle.redodb_memo.proofs.bits.Bits.push_members.Given as goal

abbrev pub invariant-members : goal.invariant-members
invariant-members l = record {
  past : l.k * 64 ≤ l.next;
  left : AreLeft l.self l.left l.next (l.k * 64 + 64);
  listed : IsListedBelow l.self l.next l.list.items;
}

abbrev pub decreases-members : goal.decreases-members
decreases-members l = l.k * 64 + 64 - l.next
