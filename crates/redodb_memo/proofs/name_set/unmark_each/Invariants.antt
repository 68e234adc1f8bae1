use Rattle.std.proofs.Common.{◌≡◌, ◌↔◌, ℕ, length, take}
use Rattle.std.specs.List.{Contains}
use Rattle.redodb_memo.specs.Bits.{IsSet}
use Rattle.redodb_memo.proofs.name_set.unmark_each.Given as goal

abbrev pub invariant-loop-t : goal.invariant-loop-t
invariant-loop-t l = record {
  sized : length l.marks ≡ length l.fn.marks;
  each : (t : ℕ) → IsSet l.marks t
      ↔ (IsSet l.fn.marks t × (Contains (take l.t-index l.names) t → ⊥));
}
