-- The value of a memo's fields, and their invariant.
use Rattle.std.specs.Prelude.{◌≡◌}
use Rattle.redodb_memo.specs.NameSet.{size_of}
use Rattle.redodb_memo.specs.Memo.{memo_count}
use Rattle.redodb_memo.specs.Support.NameSet.{AreQueued}
use Rattle.redodb_replica.specs.declared.memo.Memo.TheInside.{Inside}
use Rattle.redodb_replica.specs.Support.Memos.{MemoOf}

abbrev pub memo_of : Inside → MemoOf
memo_of inside = record { out = inside.out; seeds = inside.seeds.queue }

-- the marked seeds are those of the queue
pub record KeepsMemo (inside : Inside) : Type 0 where
  pub seeds : size_of inside.seeds ≡ memo_count inside.out
  pub noted : AreQueued inside.seeds
